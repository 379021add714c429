-- The entries that bytes have, by their numbers, which count from 0 over the whole section.
use Rattle.std.specs.Prelude.{◌≡◌, ℕ, List, [], length, slice_get, Option}
use Rattle.rv_bytes.specs.Readers.{Res, got, bad}
use Rattle.entry_tree.specs.Invariant.{AreEntries}
use Rattle.dwarf_units.specs.Kept.{AreKept}
use Rattle.dwarf_units.specs.Spots.{Spot as UnitSpot}
use Rattle.dwarf_units.specs.Units.{CompileUnit, AreUnits, at_start}
use Rattle.dwarf_units.specs.UnitReaders.{read_units}
use Rattle.dwarf_units.specs.declared.units.Units.{Units}
use Rattle.dwarf_entries.specs.Dies.{Die, Info, info_of}
use Rattle.dwarf_entries.specs.Shapes.{Sections}
use Rattle.dwarf_dies.specs.Units.{dwarf_units}

-- the entry with this number
abbrev pub die_of : Info → ℕ → Option Die
die_of info number = slice_get info.dies number

-- its number, where it begins, the number of its parent, and where its unit begins
abbrev pub number_of_die : Die → ℕ
number_of_die d = d.entry.number

abbrev pub offset_of_die : Die → ℕ
offset_of_die d = d.entry.offset

abbrev pub up_of_die : Die → Option ℕ
up_of_die d = d.entry.up

abbrev pub start_of_die : Die → ℕ
start_of_die d = d.start

-- these entries are those of the units that `.debug_info` consists of, with tables in `.debug_abbrev`
pub record AreDiesOf (abbrevs : List ℕ) (sections : Sections) (info : Info) : Type 0 where
  pub units : List CompileUnit
  pub are : AreUnits abbrevs sections.info units
  pub info_is : info ≡ info_of sections (dwarf_units units)

-- the units that were read; none where the bytes are none
abbrev pub units_or_none : Res UnitSpot (List CompileUnit) → List CompileUnit
units_or_none (got us past rest) = us
units_or_none (bad rule at) = []

-- the entries of the units that the bytes are
unfoldable pub info_read : List ℕ → Sections → Info
info_read abbrevs sections = info_of sections (dwarf_units (units_or_none (read_units abbrevs (at_start (length sections.info)) 0 sections.info)))

-- what is kept for a view: the units that the bytes are, the entries in prefix order, and how many there are
pub record IsView (abbrevs info : List ℕ) (kept : Units) (count : ℕ) : Type 0 where
  pub are_kept : AreKept abbrevs info kept
  pub entries : AreEntries kept.tree
  pub count_is : count ≡ length kept.tree
