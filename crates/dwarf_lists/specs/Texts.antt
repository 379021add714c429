-- The texts that indexes lead to: DWARF 5, 7.26.
use Rattle.std.specs.Prelude.{◌≡◌, ◌<◌, ℕ, List, length, drop, ◌⊎◌}
use Rattle.rv_bytes.specs.Rules.{outside}
use Rattle.rv_bytes.specs.Numbers.{text}
use Rattle.rv_bytes.specs.Sections.{BeginsAt}
use Rattle.rv_bytes.specs.declared.err.DwErr.{DwErr}
use Rattle.dwarf_lists.specs.Offsets.{HasOffset, offset_place}

-- the offset at the index is inside the texts
pub record LeadsTo (offsets : List ℕ) (base index : ℕ) (texts : List ℕ) (offset : ℕ) : Type 0 where
  pub stands : HasOffset offsets base index offset
  pub inside : offset < length texts

-- the text begins where the offset at the index says
pub record HasText (offsets : List ℕ) (base index : ℕ) (texts value : List ℕ) : Type 0 where
  pub offset : ℕ
  pub stands : HasOffset offsets base index offset
  pub begins : BeginsAt text texts offset value

-- why the index has no text: no offset at it is inside the texts, or one is, and the bytes from there on are invalid as a text.
-- Memory may always run out.
abbrev pub HasNoText : List ℕ → ℕ → ℕ → List ℕ → DwErr → Type 0
HasNoText offsets base index texts (DwErr.Refused at rule) =
    (((offset : ℕ) → ¬ LeadsTo offsets base index texts offset) × ((at ≡ offset_place base index) × (rule ≡ outside)))
    ⊎ ((offset : ℕ) × (LeadsTo offsets base index texts offset × text.faults offset (drop offset texts) rule at))
HasNoText offsets base index texts DwErr.Memory = Unit {0}

-- the index has a text, or there is a refusal that is right
abbrev pub HasAnswer : List ℕ → ℕ → ℕ → List ℕ → Type 0
HasAnswer offsets base index texts =
    ((v : List ℕ) × HasText offsets base index texts v) ⊎ ((o : ℕ) × ((r : ℕ) × HasNoText offsets base index texts (DwErr.Refused o r)))

-- each index has a text or a refusal, at most one of each, and never both; out of memory aside
pub record IndexHasOneAnswer : Type 0 where
  pub some_answer : (offsets : List ℕ) (base index : ℕ) (texts : List ℕ) → HasAnswer offsets base index texts
  pub one_text : (offsets : List ℕ) (base index : ℕ) (texts v w : List ℕ) → HasText offsets base index texts v → HasText offsets base index texts w → v ≡ w
  pub one_refusal : (offsets : List ℕ) (base index : ℕ) (texts : List ℕ) (o r p q : ℕ) → HasNoText offsets base index texts (DwErr.Refused o r) → HasNoText offsets base index texts (DwErr.Refused p q) → (o ≡ p) × (r ≡ q)
  pub never_both : (offsets : List ℕ) (base index : ℕ) (texts v : List ℕ) (o r : ℕ) → HasText offsets base index texts v → HasNoText offsets base index texts (DwErr.Refused o r) → ⊥
