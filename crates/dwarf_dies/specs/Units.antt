-- Units as they are read, with their entries numbered over the whole section: DWARF 5, 7.5.
use Rattle.std.specs.Prelude.{ℕ, ◌+◌, List, [], ◌∷◌, length, map}
use Rattle.rv_bytes.specs.Forms.{Form, made, row}
use Rattle.rv_bytes.specs.Nested.{within}
use Rattle.layout_set.specs.declared.refusal.Section.{Section}
use Rattle.dwarf_units.specs.Entries.{Attribute as ReadAttribute, Entry as ReadEntry}
use Rattle.dwarf_units.specs.Spots.{Spot as UnitSpot, in_info, in_abbrev}
use Rattle.dwarf_units.specs.Units.{CompileUnit, units, at_start}
use Rattle.dwarf_entries.specs.Items.{Spot}
use Rattle.dwarf_entries.specs.Shapes.{Attribute, Entry, DwarfUnit}

-- an attribute as it is read
abbrev pub attribute_of : ReadAttribute → Attribute
attribute_of a = record { code = a.attr; form = a.form; offset = a.offset; value = a.value }

-- an entry as it is read, with this number
abbrev pub entry_of : ℕ → ReadEntry → Entry
entry_of number e = record { number = number; up = e.node.up; offset = e.node.offset; tag = e.node.tag; attributes = map attribute_of e.attributes }

-- entries, the first of which has this number
abbrev pub numbered_from : ℕ → List ReadEntry → List Entry
numbered_from number [] = []
numbered_from number (e ∷ es) = entry_of number e ∷ numbered_from (number + 1) es

-- units, the first entry of the first of which has this number
abbrev pub units_from : ℕ → List CompileUnit → List DwarfUnit
units_from number [] = []
units_from number (u ∷ us) = record { start = u.header.offset; entries = numbered_from number u.entries } ∷ units_from (number + length u.entries) us

-- all units of a section
abbrev pub dwarf_units : List CompileUnit → List DwarfUnit
dwarf_units us = units_from 0 us

-- a place of one of the two sections
abbrev pub spot_of : UnitSpot → Spot
spot_of (in_info offset) = record { section = Section.Info; offset = offset }
spot_of (in_abbrev offset) = record { section = Section.Abbrev; offset = offset }

-- `.debug_info` of so many bytes consists of these units, whose tables are in `.debug_abbrev`
abbrev pub all_units : List ℕ → ℕ → Form Spot (List DwarfUnit)
all_units abbrevs size = within spot_of (made dwarf_units (row (units abbrevs) (at_start size)))
