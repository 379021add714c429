-- What is appended for a value.
use Rattle.std.specs.Prelude.{◌≡◌, ◌≤◌, ◌<◌, ℕ, zero, suc, ◌+◌, ◌-◌, ◌/◌, ◌%◌, ◌^◌, ℤ, pos, negsuc, List, [], ◌∷◌, ◌++◌, length}
use Rattle.rv_bytes.specs.Forms.{Form}

-- at each place the bytes are a spelling of the value
abbrev pub SpellsEverywhere : {A : Type 0} → Form ℕ A → A → List ℕ → Type 0
SpellsEverywhere F v t = (n : ℕ) → F.spells n v t

-- bytes were appended that spell the value at each place
pub record IsPut {A : Type 0} (F : Form ℕ A) (value : A) (old new : List ℕ) : Type 0 where
  pub bytes : List ℕ
  pub appended : new ≡ old ++ bytes
  pub spelled : SpellsEverywhere F value bytes

-- bytes were appended that spell the value at the place where they stand, in a buffer that holds a section from its start
pub record IsPutHere {A : Type 0} (F : Form ℕ A) (value : A) (old new : List ℕ) : Type 0 where
  pub bytes : List ℕ
  pub appended : new ≡ old ++ bytes
  pub spelled : F.spells (length old) value bytes

-- the old bytes stay, and others follow them
pub record Extends (old new : List ℕ) : Type 0 where
  pub bytes : List ℕ
  pub appended : new ≡ old ++ bytes

-- the bytes are a spelling of the value at each place, and no spelling of it is shorter
pub record IsShortest {A : Type 0} (F : Form ℕ A) (v : A) (t : List ℕ) : Type 0 where
  pub spells : SpellsEverywhere F v t
  pub fewest : (n : ℕ) (u : List ℕ) → F.spells n v u → length t ≤ length u

-- a shortest spelling of the value was appended
pub record AppendsShortest {A : Type 0} (F : Form ℕ A) (v : A) (old new : List ℕ) : Type 0 where
  pub spelling : List ℕ
  pub appended : new ≡ old ++ spelling
  pub shortest : IsShortest F v spelling

-- so many groups of seven bits and one, the lowest first; all but the last go on
abbrev pub groups_bytes : ℕ → ℕ → List ℕ
groups_bytes zero n = n ∷ []
groups_bytes (suc more) n = (128 + n % 128) ∷ groups_bytes more (n / 128)

-- the fewest groups of seven bits that hold n, and one where it is 0
pub record IsGroupCount (n count : ℕ) : Type 0 where
  pub some : 1 ≤ count
  pub ten : count ≤ 10
  pub holds : n < 128 ^ count
  pub fewest : (more : ℕ) → 1 ≤ more → n < 128 ^ more → count ≤ more

-- the number, or -1 less the number where it is negative
abbrev pub without_sign : ℤ → ℕ
without_sign (pos n) = n
without_sign (negsuc n) = n

-- the number's two's complement in so many groups of seven bits
abbrev pub in_groups : ℕ → ℤ → ℕ
in_groups count (pos n) = n
in_groups count (negsuc n) = 128 ^ count - suc n
