-- Offsets by their indexes: DWARF 5, 7.26, 7.28 and 7.29, with offsets of 4 bytes.
use Rattle.std.specs.Prelude.{ℕ, ◌+◌, ◌-◌, ◌*◌, ◌^◌, min, List}
use Rattle.rv_bytes.specs.Numbers.{number}
use Rattle.rv_bytes.specs.Sections.{BeginsAt}

-- from the base on stand offsets of 4 bytes, which the index counts from 0, and the one at the index is this
abbrev pub HasOffset : List ℕ → ℕ → ℕ → ℕ → Type 0
HasOffset offsets base index offset = BeginsAt (number 4) offsets (base + 4 * index) offset

-- where a refusal says that the offset at an index is to stand; a place is below 2^64
abbrev pub offset_place : ℕ → ℕ → ℕ
offset_place base index = min (base + 4 * index) (2 ^ 64 - 1)
