-- The rules that variant parts, variants and their members break: DWARF 5, 5.7.10.
use Rattle.std.specs.Prelude.{ℕ, ◌==◌, ◌&&◌, ◌||◌, nat_lt, not, Bool, true, false, if◌then◌else◌, List, [], ◌∷◌, length, map, count_by, bytes_eq, codes, is_some, is_none, Option, Some, None}
use Rattle.layout_set.specs.Numbers.{last_of}
use Rattle.layout_set.specs.Primitives.{prim_bytes}
use Rattle.layout_set.specs.declared.primitive.Primitive.{Primitive}
use Rattle.layout_set.specs.declared.set.TypeRef.{TypeRef}
use Rattle.dwarf_entries.specs.Codes.{at_discr, at_discr_list, at_type}
use Rattle.dwarf_entries.specs.Counts.{is_first_part}
use Rattle.dwarf_entries.specs.Dies.{Die, Info, parent_of, what}
use Rattle.dwarf_entries.specs.Discriminants.{leaves_none}
use Rattle.dwarf_entries.specs.Enums.{is_listed, listed_numbers, number_in, tag_member, tag_primitive, is_tagless, variant_member, variant_structure, variants_in}
use Rattle.dwarf_entries.specs.Items.{lowest, rule_if}
use Rattle.dwarf_entries.specs.Lookups.{has}
use Rattle.dwarf_entries.specs.PassedOver.{is_structure}
use Rattle.dwarf_entries.specs.Pointers.{fat_pointer}
use Rattle.dwarf_entries.specs.Rules.{missing, enum_shape, no_tag_member}
use Rattle.dwarf_entries.specs.Structures.{children_with, is_member, is_part, members_of}
use Rattle.dwarf_entries.specs.Tags.{passes}
use Rattle.dwarf_entries.specs.Texts.{own_text}
use Rattle.dwarf_entries.specs.TypeLinks.{End, end_rule, has_tag_of, type_at, type_end, type_of, typed_rule}

-- two variants that have no number of their own
abbrev pub has_two_defaults : Info → Die → Bool
has_two_defaults info part = nat_lt 1 (count_by (λ v. not (is_listed v)) (variants_in info part))

-- two variants, and no discriminant that chooses
abbrev pub lacks_discr : Info → Die → Bool
lacks_discr info part = not (has at_discr part.entry) && nat_lt 1 (length (variants_in info part))

abbrev is_user : Option TypeRef → Bool
is_user (Some (TypeRef.User i)) = true
is_user _ = false

abbrev type_of_tag : Info → Option Die → Option TypeRef
type_of_tag info None = None
type_of_tag info (Some m) = type_of info m

-- the tag's type is one of the set
abbrev pub has_user_tag : Info → Die → Bool
has_user_tag info part = not (is_tagless info part) && is_user (type_of_tag info (tag_member info part))

abbrev leaves_none_of : ℕ → List ℕ → Bool
leaves_none_of size [] = false
leaves_none_of size (first ∷ rest) = leaves_none size first (last_of first rest)

abbrev lacks_room_by : Info → Die → Option Primitive → Bool
lacks_room_by info part None = false
lacks_room_by info part (Some prim) = leaves_none_of (prim_bytes 8 prim) (listed_numbers info prim part)

-- there is a default variant, and the listed numbers leave none for it
abbrev pub lacks_room : Info → Die → Bool
lacks_room info part =
    nat_lt 0 (count_by (λ v. not (is_listed v)) (variants_in info part)) && lacks_room_by info part (tag_primitive info part)

-- a part has another shape than an enum's
abbrev pub is_misshapen : Info → Die → Bool
is_misshapen info part =
    not (is_first_part info part)
    || (lacks_discr info part || ((has at_discr part.entry && has_two_defaults info part) || (has_user_tag info part || lacks_room info part)))

-- the rule that a variant part breaks
abbrev pub part_rule : Info → Die → Option ℕ
part_rule info part =
    lowest (rule_if (is_misshapen info part) enum_shape ∷ rule_if (has at_discr part.entry && is_none (tag_member info part)) no_tag_member ∷ [])

-- the second member of a fat pointer to a slice or a text, whose type isn't looked at
abbrev pub is_length : Info → Option Die → Die → Bool
is_length info None m = false
is_length info (Some d) m = is_some (fat_pointer info d) && bytes_eq (own_text info m) (codes "length")

-- what the structure of a variant leaves unsaid as a fat pointer: the type of its length
abbrev pub length_rule : Info → Option Die → Option ℕ
length_rule info None = None
length_rule info (Some d) = lowest (map (λ m. if is_length info (Some d) m then typed_rule info m else None) (members_of info d))

abbrev is_other_type : Info → End → Bool
is_other_type info (End.reached d) = not (passes is_structure (what d)) && is_some (type_at info d (what d))
is_other_type info _ = false

abbrev leads_elsewhere : Info → Option Die → Bool
leads_elsewhere info None = false
leads_elsewhere info (Some m) = is_other_type info (type_end info m)

abbrev is_block_misfit : Option Primitive → Die → Bool
is_block_misfit None v = false
is_block_misfit (Some prim) v = is_listed v && is_none (number_in prim v)

abbrev tag_of_part : Info → Option Die → Option Primitive
tag_of_part info None = None
tag_of_part info (Some part) = tag_primitive info part

-- the rule that a variant below a part breaks
abbrev pub variant_rule : Info → Die → Option ℕ
variant_rule info v =
    lowest (
    rule_if (is_none (variant_member info v)) missing
    ∷ rule_if (nat_lt 1 (length (children_with is_member info v)) || (leads_elsewhere info (variant_member info v)
    || (has at_discr_list v.entry || is_block_misfit (tag_of_part info (parent_of v)) v))) enum_shape
    ∷ length_rule info (variant_structure info v) ∷ [])

abbrev structure_or_type : Info → End → Option ℕ
structure_or_type info (End.reached d) = if passes is_structure (what d) then None else end_rule info (End.reached d)
structure_or_type info e = end_rule info e

-- the rule that the link of a variant's member breaks; it may lead to a structure in a structure
abbrev pub structure_rule : Info → Die → Option ℕ
structure_rule info m = if has at_type m.entry then structure_or_type info (type_end info m) else Some missing

abbrev is_one : Die → Option Die → Bool
is_one m None = false
is_one m (Some o) = m.entry.offset == o.entry.offset

abbrev member_of_part : Info → Option Die → Option Die
member_of_part info None = None
member_of_part info (Some part) = tag_member info part

-- the member is the tag of its part
abbrev pub is_tag_member : Info → Die → Bool
is_tag_member info m = has_tag_of is_part (parent_of m) && is_one m (member_of_part info (parent_of m))
