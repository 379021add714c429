-- LF_UNION: an enum where its name is `enum2$<X>`, and else bytes.
use Rattle.std.specs.Prelude.{ℕ, ◌==◌, ◌&&◌, nat_lt, not, Bool, true, false, if◌then◌else◌, List, [], ◌∷◌, map, length, ℤ, pos, Option, None}
use Rattle.std.specs.List.{list_all}
use Rattle.layout_set.specs.declared.set.TypeDef.{TypeDef}
use Rattle.cv_type_defs.specs.Enumerations.{Enumerator, enumerators_in}
use Rattle.cv_type_defs.specs.FieldLists.{Members}
use Rattle.cv_type_defs.specs.Fields.{CvField, u32_of, u32_or_0}
use Rattle.cv_type_defs.specs.Helpers.{Named, members_at}
use Rattle.cv_type_defs.specs.Items.{lowest, rule_if}
use Rattle.cv_type_defs.specs.Numbering.{is_closed, is_enum_name}
use Rattle.cv_type_defs.specs.Rules.{enum_shape}
use Rattle.cv_type_defs.specs.Tags.{kept_for, tag_in, tag_rule}
use Rattle.cv_type_defs.specs.Texts.{enum_text, name_of_text}
use Rattle.cv_type_defs.specs.TypeRefs.{Info, fit_rule}
use Rattle.cv_type_defs.specs.Unions.{TagMembers, are_numbered, other_fields, tag_members, variant_fields, variant_numbers}
use Rattle.cv_type_defs.specs.VariantRules.{variant_rule}
use Rattle.cv_type_defs.specs.Variants.{is_same_number, names_of_all, names_record, variant_of}

abbrev enum_def : Info → Members → ℤ → List ℕ → TypeDef
enum_def info members size name =
    TypeDef.Enum (name_of_text (enum_text name)) (u32_or_0 size) 0 [] (tag_in info (tag_members members))
    (map (variant_of info name (kept_for info (tag_members members))) (variant_fields members))

-- an LF_UNION with these members, this size and this name
abbrev pub union_def : Info → Members → ℤ → List ℕ → TypeDef
union_def info members size name =
    if is_enum_name name then enum_def info members size name else TypeDef.Bytes (name_of_text name) (u32_or_0 size) 0

abbrev is_empty : List CvField → Bool
is_empty [] = true
is_empty (f ∷ fields) = false

abbrev lacks_tag : TagMembers → List ℕ → Bool
lacks_tag TagMembers.NoTag numbers = nat_lt 1 (length numbers)
lacks_tag tag numbers = false

-- the members are those of a tag and the variants in order, and two variants have a tag
abbrev members_rule : Members → Option ℕ
members_rule members =
    rule_if (not (is_empty (other_fields members) && (are_numbered (tag_members members) (variant_numbers members)
    && not (lacks_tag (tag_members members) (variant_numbers members))))) enum_shape

abbrev are_numbers : List ℕ → List Enumerator → Bool
are_numbers [] [] = true
are_numbers (n ∷ numbers) (e ∷ enumerators) = is_same_number (pos n) e.number && are_numbers numbers enumerators
are_numbers _ _ = false

abbrev names_rule_at : List ℕ → Members → List Named → Option ℕ
names_rule_at numbers members [] = None
names_rule_at numbers members (n ∷ names) =
    lowest (members.rule ∷ rule_if (not (are_numbers numbers (enumerators_in members) && list_all (λ o. o.place == n.place) names)) enum_shape ∷ [])

-- all variants have one LF_ENUM for their names, with just their numbers in order
abbrev names_rule : Info → Members → List ℕ → Option ℕ
names_rule info members name =
    names_rule_at (variant_numbers members) (members_at info.records (names_record info name members)) (names_of_all info name (variant_fields members))

-- the rule that an enum breaks
abbrev pub enum_rule : Info → Members → ℤ → List ℕ → Option ℕ
enum_rule info members size name =
    lowest (rule_if (not (is_closed name)) enum_shape ∷ fit_rule (u32_of size) ∷ members.rule ∷ members_rule members
    ∷ tag_rule info (tag_members members) ∷ names_rule info members name
    ∷ map (variant_rule info name (kept_for info (tag_members members))) (variant_fields members))

-- the rule that an LF_UNION breaks; the members of one that is bytes aren't looked at
abbrev pub union_rule : Info → Members → ℤ → List ℕ → Option ℕ
union_rule info members size name = if is_enum_name name then enum_rule info members size name else fit_rule (u32_of size)
