-- The tag of an enum: `tag`, or the two halves of one of 128 bits.
use Rattle.std.specs.Prelude.{ℕ, ◌+◌, ◌==◌, not, Bool, false, [], ◌∷◌, ℤ, pos, Option, Some, None}
use Rattle.std.specs.Option.{option_map}
use Rattle.layout_set.specs.Primitives.{prim_bytes}
use Rattle.layout_set.specs.declared.primitive.Primitive.{Primitive}
use Rattle.layout_set.specs.declared.set.Tag.{Tag}
use Rattle.cv_type_defs.specs.Enumerations.{primitive_of, primitive_rule}
use Rattle.cv_type_defs.specs.Fields.{CvField, field_target, u32_of, u32_or_0}
use Rattle.cv_type_defs.specs.Items.{lowest, rule_if}
use Rattle.cv_type_defs.specs.Links.{Target}
use Rattle.cv_type_defs.specs.Rules.{enum_shape}
use Rattle.cv_type_defs.specs.Selectors.{Kept}
use Rattle.cv_type_defs.specs.TypeRefs.{Info, fit_rule}
use Rattle.cv_type_defs.specs.Unions.{TagMembers}

abbrev pub tag_primitive : Info → CvField → Option Primitive
tag_primitive info tag = primitive_of info (field_target info.records tag)

-- the tag of an enum; one in halves is a u128
abbrev pub tag_in : Info → TagMembers → Option Tag
tag_in info TagMembers.NoTag = None
tag_in info (TagMembers.Narrow tag) = option_map (λ prim. record { off = u32_or_0 tag.offset; prim = prim }) (tag_primitive info tag)
tag_in info (TagMembers.Halves lo hi) = Some (record { off = u32_or_0 lo.offset; prim = Primitive.U128 })
tag_in info TagMembers.Misshapen = None

abbrev pub tag_bytes : Option Primitive → ℕ
tag_bytes None = 0
tag_bytes (Some prim) = prim_bytes 8 prim

-- how the selectors for a tag are kept; None where there is none
abbrev pub kept_for : Info → TagMembers → Option Kept
kept_for info (TagMembers.Narrow tag) = Some (Kept.Whole (tag_bytes (tag_primitive info tag)))
kept_for info (TagMembers.Halves lo hi) = Some Kept.InHalves
kept_for info _ = None

-- a half is a u64, and nothing that stands for another type
abbrev half_rule : Target → Option ℕ
half_rule (Target.Broken rule) = Some rule
half_rule (Target.Simple index) = rule_if (not (index == 0x23)) enum_shape
half_rule (Target.Record place) = Some enum_shape

-- the second number is 8 above the first
abbrev is_8_after : ℤ → ℤ → Bool
is_8_after (pos lo) (pos hi) = hi == lo + 8
is_8_after lo hi = false

-- The rule that a tag breaks. A tag has less than 16 bytes; that of 16 is in halves, the high one 8 bytes after the low one.
abbrev pub tag_rule : Info → TagMembers → Option ℕ
tag_rule info TagMembers.NoTag = None
tag_rule info (TagMembers.Narrow tag) =
    lowest (fit_rule (u32_of tag.offset) ∷ primitive_rule info (field_target info.records tag)
    ∷ rule_if (tag_bytes (tag_primitive info tag) == 16) enum_shape ∷ [])
tag_rule info (TagMembers.Halves lo hi) =
    lowest (fit_rule (u32_of lo.offset) ∷ half_rule (field_target info.records lo) ∷ half_rule (field_target info.records hi)
    ∷ rule_if (not (is_8_after lo.offset hi.offset)) enum_shape ∷ [])
tag_rule info TagMembers.Misshapen = Some enum_shape
