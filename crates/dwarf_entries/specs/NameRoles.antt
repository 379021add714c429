-- Which entries have names that must be words, and which have joined ones.
use Rattle.std.specs.Prelude.{◌&&◌, not, Bool, true, false, Option, Some, None}
use Rattle.dwarf_entries.specs.Dies.{Die, Info, parent_of, what}
use Rattle.dwarf_entries.specs.PassedOver.{is_in_function, is_structure}
use Rattle.dwarf_entries.specs.Structures.{has_part}
use Rattle.dwarf_entries.specs.TypeLinks.{has_tag_of, is_inner_structure}
use Rattle.dwarf_entries.specs.Enums.{is_variant}
use Rattle.dwarf_entries.specs.declared.tag.Tag.{Tag}

abbrev pub has_no_part : Info → Option Die → Bool
has_no_part info None = true
has_no_part info (Some d) = not (has_part info d)

-- a member below a structure, with or without a variant part
abbrev pub is_in_structure : Die → Bool
is_in_structure m = has_tag_of is_structure (parent_of m)

-- a member of a structure with a variant part, beside the part: it says nothing
abbrev pub is_beside_part : Info → Die → Bool
is_beside_part info m = is_in_structure m && not (has_no_part info (parent_of m))

-- a member of a variant
abbrev pub is_of_variant : Die → Bool
is_of_variant m = has_tag_of is_variant (parent_of m)

abbrev pub outer_structure : Option Die → Bool
outer_structure None = false
outer_structure (Some d) = not (is_inner_structure d)

-- a param of a struct or an enum: below a structure that isn't in a structure
abbrev pub is_param : Die → Bool
is_param p = is_in_structure p && outer_structure (parent_of p)

-- what the name of an entry is
pub data Role : Type 0 where
  -- a word
  word : Role
  -- with those around it
  joined : Role
  -- a text that says nothing
  plain : Role

abbrev role_if : Bool → Role → Role → Role
role_if true r s = r
role_if false r s = s

abbrev pub role_by : Info → Die → Option Tag → Role
role_by info d (Some Tag.Member) = role_if (is_in_structure d) Role.word (role_if (is_of_variant d) Role.word Role.plain)
role_by info d (Some Tag.TemplateTypeParameter) = role_if (is_param d) Role.word Role.plain
role_by info d (Some Tag.Enumerator) = Role.word
role_by info d (Some Tag.Variable) = role_if (is_in_function d) Role.word Role.joined
role_by info d (Some Tag.FormalParameter) = Role.word
role_by info d _ = Role.joined

-- what the name of an entry is
abbrev pub role_of : Info → Die → Role
role_of info d = role_by info d (what d)
