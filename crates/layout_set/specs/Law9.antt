-- Law 9: no field of size at least 1 of an exact variant overlaps the tag.
use Rattle.std.specs.Prelude.{ℕ, ◌<◌, List, Option, Some, None}
use Rattle.std.specs.List.{All, HoldsAt}
use Rattle.layout_set.specs.declared.breach.Item.TheVariants.{Whole, Def, Static, Func as OfFunc}
use Rattle.layout_set.specs.declared.set.Set.{Set}
use Rattle.layout_set.specs.declared.set.Field.{Field}
use Rattle.layout_set.specs.declared.set.Tag.{Tag}
use Rattle.layout_set.specs.declared.set.Selector.{Selector}
use Rattle.layout_set.specs.declared.set.Selector.TheVariants.{Exact, Span, Only}
use Rattle.layout_set.specs.declared.set.Variant.{Variant}
use Rattle.layout_set.specs.declared.set.TypeDef.{TypeDef}
use Rattle.layout_set.specs.declared.set.TypeDef.TheVariants.{Enum}
use Rattle.layout_set.specs.FirstBreach.{Law}
use Rattle.layout_set.specs.Overlap.{Apart, span_of}
use Rattle.layout_set.specs.Primitives.{prim_bytes}
use Rattle.layout_set.specs.Sizes.{size}

-- the bytes of a tag
abbrev pub tag_span : ℕ → Tag → ℕ × ℕ
tag_span ptr tag = (tag.off, prim_bytes ptr tag.prim)

-- the field has no byte, or none of the tag's
abbrev pub LeavesTag : ℕ → List TypeDef → Tag → Field → Type 0
LeavesTag ptr types tag field = 0 < size ptr types field.ty → Apart (span_of ptr types field) (tag_span ptr tag)

abbrev pub FieldsLeaveTag : ℕ → List TypeDef → Tag → Selector → List Field → Type 0
FieldsLeaveTag ptr types tag (Exact number) fields = All (LeavesTag ptr types tag) fields
FieldsLeaveTag ptr types tag (Span first last) fields = Unit {0}
FieldsLeaveTag ptr types tag Only fields = Unit {0}

abbrev pub VariantsLeaveTag : ℕ → List TypeDef → Option Tag → List Variant → Type 0
VariantsLeaveTag ptr types None variants = Unit {0}
VariantsLeaveTag ptr types (Some tag) variants = All (λ v. FieldsLeaveTag ptr types tag v.sel v.fields) variants

unfoldable pub HasTagAlone : ℕ → List TypeDef → TypeDef → Type 0
HasTagAlone ptr types (Enum name size align params tag variants) = VariantsLeaveTag ptr types tag variants
HasTagAlone ptr types _ = Unit {0}

abbrev pub Law9 : Set → Law
Law9 set Whole = Unit {0}
Law9 set (Def i) = HoldsAt (HasTagAlone set.target.ptr set.types) set.types i
Law9 set (Static i) = Unit {0}
Law9 set (OfFunc i) = Unit {0}
