-- The attributes of entries, by the numbers of these.
use Rattle.std.specs.Prelude.{ℕ, List, Option, option_and_then}
use Rattle.dwarf_abbrev.specs.Values.{Val}
use Rattle.dwarf_units.specs.Attributes.{attribute_seen}
use Rattle.dwarf_units.specs.declared.attributes.EntryAttribute.{EntryAttribute}
use Rattle.dwarf_entries.specs.Dies.{Die, offset_in}
use Rattle.dwarf_entries.specs.Lookups.{attribute_of as first_attribute, number_of, value_of}
use Rattle.dwarf_entries.specs.Shapes.{Attribute}
use Rattle.dwarf_dies.specs.Units.{attribute_of}

-- an attribute that was read, with its bytes as a list
abbrev pub attribute_kept : EntryAttribute → Attribute
attribute_kept a = attribute_of (attribute_seen a)

abbrev pub attributes_of_die : Die → List Attribute
attributes_of_die d = d.entry.attributes

-- the first attribute of an entry that has this code, its value, and the number that this is
abbrev pub first_of : ℕ → Die → Option Attribute
first_of code d = first_attribute code d.entry

abbrev pub value_in : ℕ → Die → Option Val
value_in code d = value_of code d.entry

abbrev pub number_in : ℕ → Die → Option ℕ
number_in code d = number_of code d.entry

-- the same where it is an offset of another section
abbrev pub offset_at : ℕ → Die → Option ℕ
offset_at code d = option_and_then offset_in (value_in code d)
