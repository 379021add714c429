-- Forms of lines: items of which each but the last is one word, parted by one space.
use Rattle.std.specs.Prelude.{ℕ, nat_lt, nat_le, ◌==◌, ◌&&◌, if◌then◌else◌, Bool, length, List, [], ◌∷◌, ◌++◌, Option, Some, None}
use Rattle.layout_words.specs.declared.slot.Slot.{Slot}
use Rattle.layout_words.specs.declared.slot.Slot.TheVariants as slots
use Rattle.std.specs.List.{All}
use Rattle.expr_eval.specs.declared.operation.Op.{Op}
use Rattle.expr_eval.specs.Invariant.{each_sound, value_is_last, fits, height_after, AreOps}
use Rattle.layout_words.specs.Spellings.{Spelling, ◌>>=◌}
use Rattle.layout_words.specs.PlaceSpellings.{operation, IsOp}

-- what is left of a line behind a word: nothing, or what follows the space
abbrev pub Left : Type 0
Left = Option (List ℕ)

-- a cut further on
abbrev pub cons_word : ℕ → List ℕ × Left → List ℕ × Left
cons_word c cut = (c ∷ cut.0, cut.1)

-- the first word, and what is left
unfoldable pub cut : List ℕ → List ℕ × Left
cut [] = ([], None)
cut (c ∷ line) = if c == 32 then ([], Some line) else cons_word c (cut line)

-- the next word, and what is left
abbrev pub next_word : Left → Option (List ℕ × Left)
next_word None = None
next_word (Some line) = Some (cut line)

-- the item that the next word is, and what is left
abbrev pub take_word : {A : Type 0} → Spelling A → Left → Option (A × Left)
take_word S left = next_word left >>= λ p. S.of p.0 >>= λ a. Some (a, p.1)

-- all that is left
abbrev pub all_left : Left → Option (List ℕ × Left)
all_left None = None
all_left (Some line) = Some (line, None)

-- the item that all that is left is
abbrev pub take_rest : {A : Type 0} → Spelling A → Left → Option A
take_rest S None = None
take_rest S (Some line) = S.of line

-- what stands in a line behind the words before it: the text of each value, the value with a text, which values there
-- are, and what each word must be
pub record Form (A : Type 0) : Type 1 where
  pub text : A → Left
  pub of : Left → Option A
  pub Is : A → Type 0
  pub slots : List Slot

-- a space and what follows it
abbrev pub behind : Left → List ℕ
behind None = []
behind (Some line) = 32 ∷ line

abbrev pub nothing_of : Left → Option (Unit {0})
nothing_of None = Some tt
nothing_of (Some line) = None

-- nothing
abbrev pub nothing : Form (Unit {0})
nothing = record { text = λ _. None; of = nothing_of; Is = λ _. Unit {0}; slots = [] }

-- a word, and then what follows
infixr 20 ◌·◌
abbrev pub ◌·◌ : {A B : Type 0} → Spelling A → Form B → Form (A × B)
S · F = record {
  text = λ p. Some (S.text p.0 ++ behind (F.text p.1));
  of = λ left. take_word S left >>= λ p. F.of p.1 >>= λ b. Some (p.0, b);
  Is = λ p. S.Is p.0 × F.Is p.1;
  slots = S.slot ∷ F.slots;
}

-- the rest of the line
abbrev pub rest : {A : Type 0} → Spelling A → Form A
rest S = record { text = λ a. Some (S.text a); of = take_rest S; Is = S.Is; slots = S.slot ∷ [] }

-- items with a space between each and the next
abbrev pub words_text : {A : Type 0} → Spelling A → List A → Left
words_text S [] = None
words_text S (a ∷ items) = Some (S.text a ++ behind (words_text S items))

-- a word further on
abbrev pub cons_first : ℕ → List (List ℕ) → List (List ℕ)
cons_first c [] = (c ∷ []) ∷ []
cons_first c (word ∷ words) = (c ∷ word) ∷ words

-- the words of a line, which is cut at each space
unfoldable pub words : List ℕ → List (List ℕ)
words [] = [] ∷ []
words (c ∷ line) = if c == 32 then [] ∷ words line else cons_first c (words line)

abbrev pub left_words : Left → List (List ℕ)
left_words None = []
left_words (Some line) = words line

-- the items that the words are, one by one
abbrev pub each_of : {A : Type 0} → Spelling A → List (List ℕ) → Option (List A)
each_of S [] = Some []
each_of S (word ∷ more) = S.of word >>= λ a. each_of S more >>= λ items. Some (a ∷ items)

-- any number of words, the rest of the line
abbrev pub many : {A : Type 0} → Spelling A → Form (List A)
many S = record { text = words_text S; of = λ left. each_of S (left_words left); Is = All S.Is; slots = S.slot ∷ [] }

-- whether the operations are those of an expression
abbrev pub are_ops : List Op → Bool
are_ops ops = nat_lt 0 (length ops) && (nat_le (length ops) 64 && (each_sound ops && (value_is_last ops && (fits 0 ops && nat_lt 0 (height_after 0 ops)))))

-- the operations, where they are those of an expression
abbrev pub operations_of : Left → Option (List Op)
operations_of left = each_of operation (left_words left) >>= λ ops. if are_ops ops then Some ops else None

abbrev pub AreOperations : List Op → Type 0
AreOperations ops = All IsOp ops × AreOps ops

-- one or more operations, which make an expression
abbrev pub operations : Form (List Op)
operations = record { text = words_text operation; of = operations_of; Is = AreOperations; slots = slots.Operations ∷ [] }
