-- Theorems on units.
use Rattle.std.specs.Prelude.{ℕ, List}
use Rattle.rv_bytes.specs.Forms.{row, IsDefinite}
use Rattle.dwarf_units.specs.Units.{SoFar, units}

-- bytes are at most one list of units, have at most one first error, and never both
abbrev pub OneSplit : Type 0
OneSplit = (abbrevs : List ℕ) (s : SoFar) → IsDefinite (row (units abbrevs) s)
