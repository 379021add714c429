-- Law 7: fields of size at least 1 don't overlap, and elements of arrays have a size of at least 1.
use Rattle.std.specs.Prelude.{ℕ, ◌<◌, List}
use Rattle.std.specs.List.{All, HoldsAt}
use Rattle.layout_set.specs.declared.breach.Item.TheVariants.{Whole, Def, Static, Func as OfFunc}
use Rattle.layout_set.specs.declared.set.Set.{Set}
use Rattle.layout_set.specs.declared.set.Variant.{Variant}
use Rattle.layout_set.specs.declared.set.TypeDef.{TypeDef}
use Rattle.layout_set.specs.declared.set.TypeDef.TheVariants.{Struct, Array, Enum}
use Rattle.layout_set.specs.FirstBreach.{Law}
use Rattle.layout_set.specs.Overlap.{AreApart, spans_of}
use Rattle.layout_set.specs.Sizes.{size}

abbrev pub VariantsApart : ℕ → List TypeDef → List Variant → Type 0
VariantsApart ptr types variants = All (λ v. AreApart (spans_of ptr types v.fields)) variants

unfoldable pub HasPartsApart : ℕ → List TypeDef → TypeDef → Type 0
HasPartsApart ptr types (Struct name size align params fields) = AreApart (spans_of ptr types fields)
HasPartsApart ptr types (Array elem count) = 0 < size ptr types elem
HasPartsApart ptr types (Enum name size align params tag variants) = VariantsApart ptr types variants
HasPartsApart ptr types _ = Unit {0}

abbrev pub Law7 : Set → Law
Law7 set Whole = Unit {0}
Law7 set (Def i) = HoldsAt (HasPartsApart set.target.ptr set.types) set.types i
Law7 set (Static i) = Unit {0}
Law7 set (OfFunc i) = Unit {0}
