-- What the calls that read one unit do, in the words of readers.
use Rattle.std.specs.Prelude.{◌≡◌, ◌<◌, ◌≤◌, ℕ, ◌+◌, List, [], ◌∷◌, ◌++◌, length, drop, Some}
use Rattle.rv_bytes.specs.Places.{Place}
use Rattle.rv_bytes.specs.Readers.{got, bad}
use Rattle.dwarf_abbrev.specs.declared.decl.Abbrev.{Abbrev}
use Rattle.dwarf_units.specs.Spots.{in_info, in_abbrev}
use Rattle.dwarf_units.specs.Entries.{Entry}
use Rattle.dwarf_units.specs.Units.{CompileUnit, SoFar, unit_of, nodes_in}
use Rattle.dwarf_units.specs.UnitReaders.{ReadsUnits, read_body, read_unit}
use Rattle.dwarf_units.specs.Kept.{table_at, KeepsTables}
use Rattle.dwarf_units.specs.declared.fault.UnitsErr.{UnitsErr}
use Rattle.dwarf_units.specs.declared.units.Units.{Units}

-- how far a section is read of which these units are kept, and so many bytes are left
abbrev pub so_far : ℕ → Units → SoFar
so_far left kept = record { left = left; units = length kept.headers; nodes = kept.tree }

-- from the old place on there is the body of a unit whose table is at this place; its entries and its table are kept beside the
-- old ones, and the header isn't yet
pub record TakesBody (abbrevs : List ℕ) (old new : Place) (before after : Units) (at : ℕ) : Type 0 where
  pub table : List Abbrev
  pub entries : List Entry
  pub reads : (left n size : ℕ) → read_body abbrevs (so_far left before) n size old.at old.rest ≡ got (unit_of n size at table entries) new.at new.rest
  pub headers : after.headers ≡ before.headers
  pub tree : after.tree ≡ before.tree ++ nodes_in entries
  pub there : table_at after.tables at ≡ Some table
  pub kept : KeepsTables before.tables after.tables

-- the body is refused, wherever its unit begins
abbrev pub RefusesBody : List ℕ → Place → Units → UnitsErr → Type 0
RefusesBody abbrevs old before (UnitsErr.Info offset rule) = (left n size : ℕ) → read_body abbrevs (so_far left before) n size old.at old.rest ≡ bad rule (in_info offset)
RefusesBody abbrevs old before (UnitsErr.Abbrev offset rule) = (left n size : ℕ) → read_body abbrevs (so_far left before) n size old.at old.rest ≡ bad rule (in_abbrev offset)
RefusesBody abbrevs old before UnitsErr.Memory = Unit {0}

-- a unit begins at this place and ends at that one; it is kept beside the old ones
pub record TakesUnit (abbrevs info : List ℕ) (at : ℕ) (before after : Units) (end : ℕ) : Type 0 where
  pub unit : CompileUnit
  pub reads : (left : ℕ) → read_unit abbrevs (so_far left before) at (drop at info) ≡ got unit end (drop end info)
  pub rises : at < end
  pub inside : end ≤ length info
  pub size : end ≡ at + (unit.header.unit_length + 4)
  pub headers : after.headers ≡ before.headers ++ unit.header ∷ []
  pub tree : after.tree ≡ before.tree ++ nodes_in unit.entries
  pub there : table_at after.tables unit.header.abbrev_offset ≡ Some unit.table
  pub kept : KeepsTables before.tables after.tables

-- the unit is refused
abbrev pub RefusesUnit : List ℕ → List ℕ → ℕ → Units → UnitsErr → Type 0
RefusesUnit abbrevs info at before (UnitsErr.Info offset rule) = (left : ℕ) → read_unit abbrevs (so_far left before) at (drop at info) ≡ bad rule (in_info offset)
RefusesUnit abbrevs info at before (UnitsErr.Abbrev offset rule) = (left : ℕ) → read_unit abbrevs (so_far left before) at (drop at info) ≡ bad rule (in_abbrev offset)
RefusesUnit abbrevs info at before UnitsErr.Memory = Unit {0}
