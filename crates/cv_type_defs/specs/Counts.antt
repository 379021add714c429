-- How many types and parts each record adds to the set, and the record that passes a limit. Simple pointers aren't counted.
use Rattle.std.specs.Prelude.{ℕ, ◌+◌, ◌||◌, nat_lt, if◌then◌else◌, List, length, sum_by, take, Option}
use Rattle.cv_type_records.specs.declared.kinds.TypeKind.{TypeKind}
use Rattle.cv_type_defs.specs.FieldLists.{Members, members_of}
use Rattle.cv_type_defs.specs.Helpers.{helper_of, members_at, variant_members}
use Rattle.cv_type_defs.specs.Items.{rule_if}
use Rattle.cv_type_defs.specs.Numbering.{is_enum_name, is_numbered}
use Rattle.cv_type_defs.specs.Rules.{too_many}
use Rattle.cv_type_defs.specs.TypeRefs.{Info}
use Rattle.cv_type_defs.specs.Unions.{VariantField, variant_fields}
use Rattle.cv_type_defs.specs.Uses.{with_places}
use Rattle.cv_type_defs.specs.Variants.{names_record}
use Rattle.cv_type_records.specs.declared.kinds.TypeRec.{TypeRec}

-- every member of a list counts, LF_INDEX and those that are passed over too
abbrev pub list_parts : Members → ℕ
list_parts members = length members.items

-- the lists of a variant's helper and of its structure
abbrev variant_parts : Info → List ℕ → VariantField → ℕ
variant_parts info name v =
    list_parts (members_at info.records (helper_of info.records name v)) + list_parts (variant_members info.records (helper_of info.records name v))

-- an enum goes through its own list, those of its variants, each time that they are shared, and that of their names once
abbrev enum_parts : Info → List ℕ → Members → ℕ
enum_parts info name members =
    list_parts members + (sum_by (variant_parts info name) (variant_fields members)
    + list_parts (members_at info.records (names_record info name members)))

-- the members of the lists that a numbered record at a place goes through
abbrev pub kind_parts : Info → ℕ → TypeKind → ℕ
kind_parts info place (TypeKind.Structure count property fields derived vshape size name unique) = list_parts (members_of info.records place fields)
kind_parts info place (TypeKind.«Union» count property fields size name unique) =
    if is_enum_name name then enum_parts info name (members_of info.records place fields) else 0
kind_parts info place (TypeKind.Enum count property ty fields name unique) = list_parts (members_of info.records place fields)
kind_parts info place _ = 0

abbrev pub types_of : ℕ × TypeRec → ℕ
types_of p = if is_numbered p.1.kind then 1 else 0

abbrev pub parts_of : Info → ℕ × TypeRec → ℕ
parts_of info p = if is_numbered p.1.kind then kind_parts info p.0 p.1.kind else 0

-- the records up to the one at this place
abbrev up_to : Info → ℕ → List (ℕ × TypeRec)
up_to info place = take (place + 1) (with_places info.records)

-- the rule that a record breaks by making a count pass its limit
abbrev pub count_rule : Info → ℕ → Option ℕ
count_rule info place =
    rule_if (nat_lt 1000000 (sum_by types_of (up_to info place)) || nat_lt 4000000 (sum_by (parts_of info) (up_to info place))) too_many
