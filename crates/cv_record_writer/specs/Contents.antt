-- Records as they are written: a length, a kind, fields, and bytes that bring the record to a multiple of 4.
use Rattle.std.specs.Prelude.{ℕ, ◌+◌, ◌-◌, ◌^◌, ℤ, pos, negsuc, ◌≤ℤ◌, ◌<ℤ◌, List, [], ◌∷◌, ◌++◌, length, take}
use Rattle.byteorder.specs.Endian.{little_bytes}
use Rattle.cv_parts.specs.Puts.{pad_size}

-- at most three zero bytes
abbrev pub zeros : ℕ → List ℕ
zeros size = take size (0 ∷ 0 ∷ 0 ∷ [])

-- a content, which begins with a kind, and the bytes of its pad by their count
abbrev pub padded : (ℕ → List ℕ) → List ℕ → List ℕ
padded pad content = content ++ pad (pad_size (2 + length content))

-- a content after its length
abbrev pub record_bytes : List ℕ → List ℕ
record_bytes content = little_bytes 2 (length content) ++ content

-- the bytes of each value, one after the other
abbrev pub all_bytes : {A : Type 0} → (A → List ℕ) → List A → List ℕ
all_bytes f [] = []
all_bytes f (x ∷ xs) = f x ++ all_bytes f xs

-- a number that a numeric leaf holds
pub record IsNumeric (z : ℤ) : Type 0 where
  pub low : negsuc (2 ^ 63 - 1) ≤ℤ z
  pub high : z <ℤ pos (2 ^ 64)
