-- Where in a section a value stands, or why none does.
use Rattle.std.specs.Prelude.{◌≡◌, ◌<◌, ◌≤◌, ℕ, List, drop, length, ◌⊎◌}
use Rattle.rv_bytes.specs.Forms.{Form, Splits}
use Rattle.rv_bytes.specs.declared.err.DwErr.{DwErr}

-- the place is in the section, and bytes of the value begin there
pub record BeginsAt {A : Type 0} (F : Form ℕ A) (section : List ℕ) (at : ℕ) (value : A) : Type 0 where
  pub inside : at < length section
  pub begins : Splits (F.spells at value) (λ _ _. Unit {0}) at (drop at section)

-- why no value begins there: the place is outside the section, which breaks the first rule, or the first invalid item breaks the
-- rule. Memory may always run out.
abbrev pub IsFaultAt : {A : Type 0} → ℕ → Form ℕ A → List ℕ → ℕ → DwErr → Type 0
IsFaultAt outside_rule F section at (DwErr.Refused offset rule) =
    ((length section ≤ at) × ((offset ≡ at) × (rule ≡ outside_rule))) ⊎ ((at < length section) × F.faults at (drop at section) rule offset)
IsFaultAt outside_rule F section at DwErr.Memory = Unit {0}

-- at a place of a section at most one value begins, or at most one refusal is right, and never both; out of memory aside
pub record HasOneAnswer {A : Type 0} (outside_rule : ℕ) (F : Form ℕ A) : Type 0 where
  pub one_value : (section : List ℕ) (at : ℕ) (v w : A) → BeginsAt F section at v → BeginsAt F section at w → v ≡ w
  pub one_refusal : (section : List ℕ) (at o r p q : ℕ) → IsFaultAt outside_rule F section at (DwErr.Refused o r) → IsFaultAt outside_rule F section at (DwErr.Refused p q) → (o ≡ p) × (r ≡ q)
  pub never_both : (section : List ℕ) (at : ℕ) (v : A) (o r : ℕ) → BeginsAt F section at v → IsFaultAt outside_rule F section at (DwErr.Refused o r) → ⊥
