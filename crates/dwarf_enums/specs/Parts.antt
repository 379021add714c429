-- What is kept of a variant part: DWARF 5, 5.7.10.
use Rattle.std.specs.Prelude.{◌≡◌, ◌<◌, ◌^◌, Bool, false, IfSome, Option, Some, None, option_map}
use Rattle.dwarf_entries.specs.Dies.{Die, Info}
use Rattle.dwarf_entries.specs.Enums.{listed_numbers, tag_member, tag_primitive}
use Rattle.dwarf_entries.specs.Structures.{location_of}
use Rattle.dwarf_dies.specs.Handles.{DieIn}
use Rattle.dwarf_variants.specs.Ends.{DoFit, ends_of, ends_seen, leave_none}
use Rattle.layout_set.specs.Primitives.{prim_bytes}
use Rattle.layout_set.specs.declared.primitive.Primitive.{Primitive}
use Rattle.dwarf_enums.specs.declared.part.TagNumbers.{TagNumbers}

-- the ends of the numbers that the part's variants list for the type, which are numbers of that type
pub record AreEndsOf (part : DieIn) (tag : TagNumbers) : Type 0 where
  pub ends : option_map ends_seen tag.listed ≡ ends_of (listed_numbers part.info tag.prim part.die)
  pub fit : IfSome tag.listed (DoFit tag.prim)

-- the type of the part's tag, with those ends
pub record IsTagOf (part : DieIn) (tag : Option TagNumbers) : Type 0 where
  pub prim : option_map (λ t. t.prim) tag ≡ tag_primitive part.info part.die
  pub numbers : IfSome tag (AreEndsOf part)

-- the place of the part's tag has 32 bits
abbrev pub tag_location_fits : Info → Die → Type 0
tag_location_fits info part = IfSome (tag_member info part) (λ m. location_of m < 2 ^ 32)

-- the numbers that the part's variants list for a type leave none for a default variant
abbrev pub leaves_none_in : Info → Die → Option Primitive → Bool
leaves_none_in info part None = false
leaves_none_in info part (Some prim) = leave_none (prim_bytes 8 prim) (ends_of (listed_numbers info prim part))
