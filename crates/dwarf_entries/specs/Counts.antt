-- How many types, parts and variables each entry adds to the set that is said, and the entry that passes a limit.
use Rattle.std.specs.Prelude.{ℕ, ◌+◌, ◌==◌, ◌&&◌, ◌||◌, nat_lt, not, Bool, true, false, if◌then◌else◌, List, length, filter, sum_by, is_some, Option, Some, None}
use Rattle.dwarf_entries.specs.Dies.{Die, Info, parent_of, what}
use Rattle.dwarf_entries.specs.Enums.{fields_in, part_of, variant_structure}
use Rattle.dwarf_entries.specs.NameRoles.{is_param}
use Rattle.dwarf_entries.specs.PassedOver.{is_passed}
use Rattle.dwarf_entries.specs.Pointers.{fat_pointer}
use Rattle.dwarf_entries.specs.Rules.{too_many}
use Rattle.dwarf_entries.specs.Statics.{is_static}
use Rattle.dwarf_entries.specs.Structures.{has_part}
use Rattle.dwarf_entries.specs.TypeLinks.{has_tag_of, is_type_of_set}
use Rattle.dwarf_entries.specs.declared.tag.Tag.{Tag}

abbrev pub one_if : Bool → ℕ
one_if true = 1
one_if false = 0

abbrev pub types_of : Info → Die → ℕ
types_of info d = one_if (is_type_of_set info d)

abbrev pub variables_of : Info → Die → ℕ
variables_of info d = one_if (is_static info d)

-- a struct of the set: no enum, no fat pointer, and no structure in a structure
abbrev pub is_struct : Info → Die → Bool
is_struct info d = is_type_of_set info d && (not (has_part info d) && not (is_some (fat_pointer info d)))

-- a struct or an enum of the set
abbrev pub has_params : Info → Die → Bool
has_params info d = is_type_of_set info d && not (is_some (fat_pointer info d))

abbrev pub test_of : (Die → Bool) → Option Die → Bool
test_of test None = false
test_of test (Some d) = test d

abbrev pub is_enumeration : Tag → Bool
is_enumeration Tag.EnumerationType = true
is_enumeration _ = false

abbrev first_part : Info → Option Die → Option Die
first_part info None = None
first_part info (Some d) = part_of info d

abbrev is_same : Die → Option Die → Bool
is_same d None = false
is_same d (Some o) = d.entry.offset == o.entry.offset

-- the entry is the first variant part of its structure
abbrev pub is_first_part : Info → Die → Bool
is_first_part info part = is_same part (first_part info (parent_of part))

-- the entry is the variant part of an enum of the set
abbrev pub is_part_of_enum : Info → Die → Bool
is_part_of_enum info part = is_first_part info part && test_of (is_type_of_set info) (parent_of part)

-- the parts that an entry adds: a field, a param, a case, or a variant with its fields, each time that they are shared
abbrev pub parts_by : Info → Die → Option Tag → ℕ
parts_by info d (Some Tag.Member) = one_if (test_of (is_struct info) (parent_of d))
parts_by info d (Some Tag.TemplateTypeParameter) = one_if (is_param d && test_of (has_params info) (parent_of d))
parts_by info d (Some Tag.Enumerator) = one_if (has_tag_of is_enumeration (parent_of d))
parts_by info d (Some Tag.Variant) =
    if test_of (is_part_of_enum info) (parent_of d) then 1 + length (fields_in info (variant_structure info d)) else 0
parts_by info d _ = 0

abbrev pub parts_of : Info → Die → ℕ
parts_of info d = if is_passed info d then 0 else parts_by info d (what d)

-- the entries before one
abbrev pub before : Info → Die → List Die
before info d = filter (λ o. nat_lt o.entry.offset d.entry.offset) info.dies

-- with this entry a count is past its limit
abbrev pub is_past : ℕ → (Info → Die → ℕ) → Info → Die → Bool
is_past limit count info d = nat_lt limit (sum_by (count info) (before info d) + count info d)

-- the rule that an entry breaks by making a count pass its limit
abbrev pub count_rule : Info → Die → Option ℕ
count_rule info d =
    if is_past 1000000 types_of info d || (is_past 4000000 parts_of info d || is_past 1000000 variables_of info d) then Some too_many else None
