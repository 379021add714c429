-- What a text is as a name.
use Rattle.std.specs.Prelude.{◌≡◌, ℕ, ◌≤◌, ◌-◌, ◌^◌, min, List, ◌++◌, length, take, Result, Ok, Err}
use Rattle.names.specs.declared.error.NameErr.{NameErr}
use Rattle.names.specs.declared.error.NameErr.TheVariants.{BadName, Memory}
use Rattle.names.specs.Words.{IsWord}

-- some value's text begins so
abbrev pub Begins : {A : Type 0} → (A → List ℕ → Type 0) → List ℕ → Type 0
Begins {A} Spells p = (v : A) × ((r : List ℕ) × Spells v (p ++ r))

-- the longest prefix of the text with which some value's text begins has this length
pub record IsLongest {A : Type 0} (Spells : A → List ℕ → Type 0) (text : List ℕ) (len : ℕ) : Type 0 where
  pub within : len ≤ length text
  pub begun : Begins Spells (take len text)
  pub longest : (m : ℕ) → m ≤ length text → Begins Spells (take m text) → m ≤ len

-- no value has the text, and `at` is the length of the longest prefix with which some value's text begins
pub record IsBadAt {A : Type 0} (Spells : A → List ℕ → Type 0) (text : List ℕ) (at : ℕ) : Type 0 where
  pub none : (v : A) → Spells v text → ⊥
  pub len : ℕ
  pub longest : IsLongest Spells text len
  pub saturates : at ≡ min len (2 ^ 32 - 1)

-- what a reader of such texts answers: the value with this text, or where the text stops being one
abbrev pub IsRead : {A : Type 0} → (A → List ℕ → Type 0) → List ℕ → Result A NameErr → Type 0
IsRead Spells text (Ok v) = Spells v text
IsRead Spells text (Err (BadName at)) = IsBadAt Spells text at
IsRead Spells text (Err Memory) = Unit {0}

-- a text is that of at most one value
abbrev pub IsOfOne : {A : Type 0} → (A → List ℕ → Type 0) → Type 0
IsOfOne {A} Spells = (a b : A) (text : List ℕ) → Spells a text → Spells b text → a ≡ b

-- the text is the word
abbrev pub WordSpells : List ℕ → List ℕ → Type 0
WordSpells w text = IsWord w × (text ≡ w)
