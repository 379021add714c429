-- The fields and params of structures: DWARF 5, 5.7.1, 5.7.6 and 2.23.
use Rattle.std.specs.Prelude.{ℕ, Bool, true, false, if◌then◌else◌, List, [], map, filter, unwrap_or}
use Rattle.std.specs.List.{list_any}
use Rattle.layout_set.specs.declared.set.Field.{Field}
use Rattle.layout_set.specs.declared.set.Param.{Param}
use Rattle.dwarf_entries.specs.Codes.{at_data_member_location}
use Rattle.dwarf_entries.specs.Dies.{Die, Info, children_of, what}
use Rattle.dwarf_entries.specs.Lookups.{number_of}
use Rattle.dwarf_entries.specs.Tags.{passes}
use Rattle.dwarf_entries.specs.Texts.{own_text}
use Rattle.dwarf_entries.specs.TypeLinks.{type_of, or_unit}
use Rattle.dwarf_entries.specs.declared.tag.Tag.{Tag}

abbrev pub is_member : Tag → Bool
is_member Tag.Member = true
is_member _ = false

abbrev pub is_param_tag : Tag → Bool
is_param_tag Tag.TemplateTypeParameter = true
is_param_tag _ = false

abbrev pub is_part : Tag → Bool
is_part Tag.VariantPart = true
is_part _ = false

-- the children of an entry that have a tag with this property, in order
abbrev pub children_with : (Tag → Bool) → Info → Die → List Die
children_with test info d = filter (λ c. passes test (what c)) (children_of info d)

-- a structure with a variant part is an enum
abbrev pub has_part : Info → Die → Bool
has_part info d = list_any (λ c. passes is_part (what c)) (children_of info d)

-- where a member lies in what holds it
abbrev pub location_of : Die → ℕ
location_of m = unwrap_or (number_of at_data_member_location m.entry) 0

abbrev pub field_of : Info → Die → Field
field_of info m = record { name = own_text info m; off = location_of m; ty = or_unit (type_of info m) }

abbrev pub param_of : Info → Die → Param
param_of info p = record { name = own_text info p; ty = or_unit (type_of info p) }

-- the members that are fields: those of a structure without a variant part
abbrev pub members_of : Info → Die → List Die
members_of info d = if has_part info d then [] else children_with is_member info d

abbrev pub fields_of : Info → Die → List Field
fields_of info d = map (field_of info) (members_of info d)

abbrev pub params_of : Info → Die → List Param
params_of info d = map (param_of info) (children_with is_param_tag info d)
