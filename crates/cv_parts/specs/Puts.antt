-- What is appended for the parts of records.
use Rattle.std.specs.Prelude.{◌≡◌, ℕ, zero, suc, ◌+◌, ◌-◌, ◌%◌, List, [], ◌∷◌, ◌++◌, length, None}
use Rattle.rv_bytes.specs.Forms.{Form}
use Rattle.rv_bytes.specs.Numbers.{LacksZero, text_breaks}
use Rattle.rv_bytes.specs.Writers.{SpellsEverywhere}

-- these bytes were appended, and spell the value at each place
pub record Puts {A : Type 0} (F : Form ℕ A) (value : A) (bytes old new : List ℕ) : Type 0 where
  pub appended : new ≡ old ++ bytes
  pub spells : SpellsEverywhere F value bytes

-- a text that can be written: it has no zero byte, and is UTF-8 of at most 65,535 bytes
pub record IsName (t : List ℕ) : Type 0 where
  pub lacks_zero : LacksZero t
  pub is_text : text_breaks t ≡ None

-- a name and the zero byte that ends it
abbrev pub name_bytes : List ℕ → List ℕ
name_bytes t = t ++ 0 ∷ []

-- so many pad bytes, each f0 and the count of bytes from it on
abbrev pub pads : ℕ → List ℕ
pads zero = []
pads (suc k) = (0xf0 + suc k) ∷ pads k

-- how many bytes bring a length to a multiple of 4
abbrev pub pad_size : ℕ → ℕ
pad_size size = (4 - size % 4) % 4
