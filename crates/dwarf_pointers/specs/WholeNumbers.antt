-- What the type of an enumeration may be: DWARF 5, 5.7.
use Rattle.std.specs.Prelude.{not, Bool, true, false, if◌then◌else◌, Option, Some, None}
use Rattle.layout_set.specs.Primitives.{is_whole}
use Rattle.layout_set.specs.declared.primitive.Primitive.{Primitive}
use Rattle.dwarf_entries.specs.Dies.{Die, Info, what}
use Rattle.dwarf_entries.specs.Primitives.{primitive_of}
use Rattle.dwarf_entries.specs.Tags.{passes}
use Rattle.dwarf_scopes.specs.Tags.{is_base_type}

-- a primitive that is no whole number
abbrev pub is_no_whole : Option Primitive → Bool
is_no_whole None = false
is_no_whole (Some prim) = not (is_whole prim)

-- an entry that is no base type, or one that is another primitive than a whole number
abbrev pub is_no_integer : Info → Die → Bool
is_no_integer info d = if passes is_base_type (what d) then is_no_whole (primitive_of info d) else true
