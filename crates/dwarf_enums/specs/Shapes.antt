-- The shapes of variants: DWARF 5, 5.7.10.
use Rattle.std.specs.Prelude.{◌&&◌, ◌||◌, nat_lt, not, Bool, false, length, is_some, is_none, Option, Some, None}
use Rattle.layout_set.specs.declared.primitive.Primitive.{Primitive}
use Rattle.dwarf_entries.specs.Codes.{at_discr_list}
use Rattle.dwarf_entries.specs.Dies.{Die, Info, what}
use Rattle.dwarf_entries.specs.Enums.{is_listed, number_in, variant_member}
use Rattle.dwarf_entries.specs.Lookups.{has}
use Rattle.dwarf_entries.specs.PassedOver.{is_structure}
use Rattle.dwarf_entries.specs.Structures.{children_with, is_member}
use Rattle.dwarf_entries.specs.Tags.{passes}
use Rattle.dwarf_entries.specs.TypeLinks.{End, type_at, type_end}

abbrev pub is_other_type : Info → End → Bool
is_other_type info (End.reached d) = not (passes is_structure (what d)) && is_some (type_at info d (what d))
is_other_type info _ = false

-- the type of a member is none of a structure
abbrev pub leads_elsewhere : Info → Die → Bool
leads_elsewhere info m = is_other_type info (type_end info m)

abbrev first_leads_elsewhere : Info → Option Die → Bool
first_leads_elsewhere info None = false
first_leads_elsewhere info (Some m) = leads_elsewhere info m

-- the number that a variant lists for a tag of this type is a block of another size
abbrev pub is_block_misfit : Option Primitive → Die → Bool
is_block_misfit None v = false
is_block_misfit (Some prim) v = is_listed v && is_none (number_in prim v)

abbrev pub has_many_members : Info → Die → Bool
has_many_members info v = nat_lt 1 (length (children_with is_member info v))

abbrev pub member_leads_elsewhere : Info → Die → Bool
member_leads_elsewhere info v = first_leads_elsewhere info (variant_member info v)

-- a variant, below a part whose tag has this type, has another shape than an enum's
abbrev pub is_other_shape : Info → Option Primitive → Die → Bool
is_other_shape info tag v =
    has_many_members info v || (member_leads_elsewhere info v || (has at_discr_list v.entry || is_block_misfit tag v))
