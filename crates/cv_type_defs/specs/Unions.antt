-- LF_UNIONs that are enums: the members that are variants, and those that are the tag.
use Rattle.std.specs.Prelude.{ℕ, ◌+◌, ◌==◌, ◌||◌, not, Bool, true, false, if◌then◌else◌, List, [], ◌∷◌, map, filter, filter_map, codes, is_some, Option}
use Rattle.std.specs.Option.{option_map}
use Rattle.cv_type_defs.specs.EnumNames.{variant_number}
use Rattle.cv_type_defs.specs.FieldLists.{Members}
use Rattle.cv_type_defs.specs.Fields.{CvField, fields_in, is_named}

-- the tag's members: none, `tag`, `tag128_lo` and `tag128_hi`, or other ones of these
pub data TagMembers : Type 0 where
  NoTag : TagMembers
  Narrow : CvField → TagMembers
  Halves : CvField → CvField → TagMembers
  Misshapen : TagMembers

abbrev pub named_fields : List ℕ → Members → List CvField
named_fields name members = filter (is_named name) (fields_in members)

abbrev tag_by : List CvField → List CvField → List CvField → TagMembers
tag_by [] [] [] = TagMembers.NoTag
tag_by (tag ∷ []) [] [] = TagMembers.Narrow tag
tag_by [] (lo ∷ []) (hi ∷ []) = TagMembers.Halves lo hi
tag_by _ _ _ = TagMembers.Misshapen

-- the members that are the tag
abbrev pub tag_members : Members → TagMembers
tag_members members =
    tag_by (named_fields (codes "tag") members) (named_fields (codes "tag128_lo") members) (named_fields (codes "tag128_hi") members)

abbrev pub is_tag_name : CvField → Bool
is_tag_name f = is_named (codes "tag") f || (is_named (codes "tag128_lo") f || is_named (codes "tag128_hi") f)

-- a member `variantN`, with its number
pub record VariantField : Type 0 where
  pub number : ℕ
  pub field : CvField

abbrev variant_field : CvField → Option VariantField
variant_field f = option_map (λ n. record { number = n; field = f }) (variant_number f.name)

-- the members that are variants, in order
abbrev pub variant_fields : Members → List VariantField
variant_fields members = filter_map variant_field (fields_in members)

-- the members that are neither the tag's nor variants
abbrev pub other_fields : Members → List CvField
other_fields members = filter (λ f. not (is_tag_name f || is_some (variant_number f.name))) (fields_in members)

-- n, n + 1 and so on
abbrev pub rise_from : ℕ → List ℕ → Bool
rise_from n [] = true
rise_from n (m ∷ numbers) = if m == n then rise_from (n + 1) numbers else false

-- The variants' numbers are 0, 1 and so on in order; a single one without a tag may have any number.
abbrev pub are_numbered : TagMembers → List ℕ → Bool
are_numbered TagMembers.NoTag (n ∷ []) = true
are_numbered tag numbers = rise_from 0 numbers

abbrev pub variant_numbers : Members → List ℕ
variant_numbers members = map (λ v. v.number) (variant_fields members)
