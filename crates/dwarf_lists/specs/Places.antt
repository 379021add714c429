-- The lists that indexes lead to: DWARF 5, 7.28 and 7.29.
use Rattle.std.specs.Prelude.{◌≡◌, ◌<◌, ℕ, ◌+◌, List, length}
use Rattle.dwarf_lists.specs.Offsets.{HasOffset}

-- the offset at the index counts from the base, and leads to this place, which is inside the section
pub record HasList (section : List ℕ) (base index at : ℕ) : Type 0 where
  pub offset : ℕ
  pub stands : HasOffset section base index offset
  pub counts : at ≡ base + offset
  pub inside : at < length section

-- an index leads to at most one list
abbrev pub IndexHasOneList : Type 0
IndexHasOneList = (section : List ℕ) (base index at other : ℕ) → HasList section base index at → HasList section base index other → at ≡ other
