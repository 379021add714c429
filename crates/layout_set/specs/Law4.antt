-- Law 4: each field and each tag ends within the size of its type.
use Rattle.std.specs.Prelude.{ℕ, ◌+◌, ◌≤◌, List, Option, Some, None}
use Rattle.std.specs.List.{All, HoldsAt}
use Rattle.layout_set.specs.declared.breach.Item.TheVariants.{Whole, Def, Static, Func as OfFunc}
use Rattle.layout_set.specs.declared.set.Set.{Set}
use Rattle.layout_set.specs.declared.set.Field.{Field}
use Rattle.layout_set.specs.declared.set.Tag.{Tag}
use Rattle.layout_set.specs.declared.set.Variant.{Variant}
use Rattle.layout_set.specs.declared.set.TypeDef.{TypeDef}
use Rattle.layout_set.specs.declared.set.TypeDef.TheVariants.{Struct, Enum}
use Rattle.layout_set.specs.FirstBreach.{Law}
use Rattle.layout_set.specs.Primitives.{prim_bytes}
use Rattle.layout_set.specs.Sizes.{size}

-- the field ends within so many bytes
abbrev pub EndsWithin : ℕ → List TypeDef → ℕ → Field → Type 0
EndsWithin ptr types most field = field.off + size ptr types field.ty ≤ most

abbrev pub FieldsEndWithin : ℕ → List TypeDef → ℕ → List Field → Type 0
FieldsEndWithin ptr types most fields = All (EndsWithin ptr types most) fields

abbrev pub TagEndsWithin : ℕ → ℕ → Option Tag → Type 0
TagEndsWithin ptr most None = Unit {0}
TagEndsWithin ptr most (Some tag) = tag.off + prim_bytes ptr tag.prim ≤ most

abbrev pub VariantsEndWithin : ℕ → List TypeDef → ℕ → List Variant → Type 0
VariantsEndWithin ptr types most variants = All (λ v. FieldsEndWithin ptr types most v.fields) variants

unfoldable pub HasPartsWithin : ℕ → List TypeDef → TypeDef → Type 0
HasPartsWithin ptr types (Struct name size align params fields) = FieldsEndWithin ptr types size fields
HasPartsWithin ptr types (Enum name size align params tag variants) = TagEndsWithin ptr size tag × VariantsEndWithin ptr types size variants
HasPartsWithin ptr types _ = Unit {0}

abbrev pub Law4 : Set → Law
Law4 set Whole = Unit {0}
Law4 set (Def i) = HoldsAt (HasPartsWithin set.target.ptr set.types) set.types i
Law4 set (Static i) = Unit {0}
Law4 set (OfFunc i) = Unit {0}
