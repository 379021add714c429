-- What entries are as the parents of members and template parameters: DWARF 5, 5.7.1, 5.7.6 and 5.7.10.
use Rattle.std.specs.Prelude.{Bool, true, false, if◌then◌else◌, List, map, Option, Some, None}
use Rattle.layout_set.specs.declared.set.TypeDef.{TypeDef}
use Rattle.dwarf_entries.specs.Dies.{Die, Info, what}
use Rattle.dwarf_entries.specs.Pointers.{fat_pointer}
use Rattle.dwarf_entries.specs.Structures.{has_part}
use Rattle.dwarf_entries.specs.Tags.{passes, is_numbered}
use Rattle.dwarf_rules.specs.declared.shapes.Shape.{Shape}

abbrev pub fat_or_plain : Option TypeDef → Shape
fat_or_plain None = Shape.Plain
fat_or_plain (Some fat) = Shape.FatPointer

-- an array, an enumeration, a pointer, a structure or a union; any other entry is plain
abbrev pub shape_of : Info → Die → Shape
shape_of info d = if passes is_numbered (what d) then (if has_part info d then Shape.Enum else fat_or_plain (fat_pointer info d)) else Shape.Plain

-- those of all entries, in order
abbrev pub shapes_of : Info → List Shape
shapes_of info = map (shape_of info) info.dies

abbrev pub is_enum : Shape → Bool
is_enum Shape.Enum = true
is_enum _ = false

abbrev pub is_fat : Shape → Bool
is_fat Shape.FatPointer = true
is_fat _ = false

abbrev pub is_plain : Shape → Bool
is_plain Shape.Plain = true
is_plain _ = false
