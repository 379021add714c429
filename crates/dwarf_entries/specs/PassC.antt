-- What entries break by what they say: one item for each, with its lowest rule.
use Rattle.std.specs.Prelude.{ℕ, ◌||◌, not, Bool, true, false, if◌then◌else◌, List, [], ◌∷◌, map, is_none, Option, Some, None}
use Rattle.std.specs.List.{list_all}
use Rattle.layout_set.specs.Primitives.{is_whole}
use Rattle.layout_set.specs.declared.primitive.Primitive.{Primitive}
use Rattle.dwarf_entries.specs.Codes.{at_bit_size, at_const_value, at_data_bit_offset, at_name, at_type}
use Rattle.dwarf_entries.specs.Counts.{count_rule}
use Rattle.dwarf_entries.specs.Dies.{Die, Info, parent_of, what}
use Rattle.dwarf_entries.specs.EnumRules.{part_rule, variant_rule, structure_rule, is_length, is_tag_member}
use Rattle.dwarf_entries.specs.Items.{Item, in_info, item_at, lowest, rule_if}
use Rattle.dwarf_entries.specs.Lookups.{has}
use Rattle.dwarf_entries.specs.NameRoles.{is_beside_part, is_in_structure, is_of_variant, is_param}
use Rattle.dwarf_entries.specs.Origins.{bearer_of, goes_on, is_too_far}
use Rattle.dwarf_entries.specs.PassedOver.{is_passed}
use Rattle.dwarf_entries.specs.Pointers.{pointer_rule}
use Rattle.dwarf_entries.specs.Primitives.{base_rule, primitive_of}
use Rattle.dwarf_entries.specs.Rules.{missing, no_type, array_shape, too_long, bit_field}
use Rattle.dwarf_entries.specs.Shapes.{Entry}
use Rattle.dwarf_entries.specs.Statics.{is_static}
use Rattle.dwarf_entries.specs.Structures.{is_part}
use Rattle.dwarf_entries.specs.Tags.{passes, is_type}
use Rattle.dwarf_entries.specs.TypeLinks.{End, has_tag_of, type_end, type_rule, typed_rule}
use Rattle.dwarf_entries.specs.Types.{count_of}
use Rattle.dwarf_entries.specs.declared.tag.Tag.{Tag}

-- one of the needed attributes is missing
abbrev pub needs : List ℕ → Entry → Option ℕ
needs codes e = rule_if (not (list_all (λ code. has code e) codes)) missing

-- a bit field is no field: DWARF 5, 5.7.6
abbrev pub bit_rule : Die → Option ℕ
bit_rule m = rule_if (has at_bit_size m.entry || has at_data_bit_offset m.entry) bit_field

-- a member whose type breaks this rule, and that needs a name
abbrev pub named_rule : Die → Option ℕ → Option ℕ
named_rule m type = lowest (needs (at_name ∷ []) m.entry ∷ type ∷ bit_rule m ∷ [])

-- a member by where it is: a field, that of a variant, the tag of a part, or none of these, which says nothing
abbrev pub member_rule : Info → Die → Option ℕ
member_rule info m =
    if is_beside_part info m then None
    else if is_in_structure m then named_rule m (if is_length info (parent_of m) m then None else typed_rule info m)
    else if is_of_variant m then named_rule m (structure_rule info m)
    else if is_tag_member info m then lowest (typed_rule info m ∷ bit_rule m ∷ [])
    else None

-- an array: a type, and one subrange with a count
abbrev pub array_rule : Info → Die → Option ℕ
array_rule info d = lowest (typed_rule info d ∷ rule_if (is_none (count_of info d)) array_shape ∷ [])

abbrev is_no_integer : Option Primitive → Bool
is_no_integer None = false
is_no_integer (Some prim) = not (is_whole prim)

abbrev is_no_tag_type : Info → Die → Option Tag → Bool
is_no_tag_type info d (Some Tag.BaseType) = is_no_integer (primitive_of info d)
is_no_tag_type info d _ = true

abbrev integer_rule : Info → End → Option ℕ
integer_rule info (End.reached d) = rule_if (is_no_tag_type info d (what d)) no_type
integer_rule info _ = None

-- an enumeration: a type, which is a whole number; a base type that is none is itself invalid
abbrev pub enumeration_rule : Info → Die → Option ℕ
enumeration_rule info d = lowest (typed_rule info d ∷ integer_rule info (type_end info d) ∷ [])

abbrev alias_rule : End → Option ℕ
alias_rule (End.reached d) = rule_if (not (passes is_type (what d))) no_type
alias_rule End.nowhere = Some no_type
alias_rule End.endless = Some too_long

-- a typedef: a type, to which its own link leads; whether that type may stand there is asked of the links to the typedef
abbrev pub typedef_rule : Info → Die → Option ℕ
typedef_rule info d = if has at_type d.entry then alias_rule (type_end info d) else Some missing

abbrev borne_rule : Info → Die → Option Die → Option ℕ
borne_rule info d None = Some (if goes_on info d then too_long else missing)
borne_rule info d (Some o) = type_rule info o

-- a static: its type is needed, and its name and its type are found in 8 steps
abbrev pub static_rule : Info → Die → Option ℕ
static_rule info d = lowest (borne_rule info d (bearer_of at_type info d) ∷ rule_if (is_too_far at_name info d) too_long ∷ [])

-- the rule that an entry breaks, by its tag
abbrev pub tag_rule : Info → Die → Option Tag → Option ℕ
tag_rule info d (Some Tag.BaseType) = base_rule info d
tag_rule info d (Some Tag.Member) = member_rule info d
tag_rule info d (Some Tag.TemplateTypeParameter) = if is_param d then lowest (needs (at_name ∷ []) d.entry ∷ typed_rule info d ∷ []) else None
tag_rule info d (Some Tag.VariantPart) = part_rule info d
tag_rule info d (Some Tag.Variant) = if has_tag_of is_part (parent_of d) then variant_rule info d else None
tag_rule info d (Some Tag.PointerType) = pointer_rule info d
tag_rule info d (Some Tag.ArrayType) = array_rule info d
tag_rule info d (Some Tag.EnumerationType) = enumeration_rule info d
tag_rule info d (Some Tag.Enumerator) = needs (at_name ∷ at_const_value ∷ []) d.entry
tag_rule info d (Some Tag.Typedef) = typedef_rule info d
tag_rule info d (Some Tag.Variable) = if is_static info d then static_rule info d else None
tag_rule info d _ = None

-- the lowest rule that an entry breaks
abbrev pub entry_rule : Info → Die → Option ℕ
entry_rule info d = if is_passed info d then None else lowest (count_rule info d ∷ tag_rule info d (what d) ∷ [])

-- an item for each entry
abbrev pub pass_c : Info → List Item
pass_c info = map (λ d. item_at (in_info d.entry.offset) (entry_rule info d)) info.dies
