-- Law 5: tags are whole numbers, numbers fit their tag, and selectors fit the enum.
use Rattle.std.specs.Prelude.{◌≡◌, ◌≢◌, ℕ, ◌^◌, ◌<◌, ◌≤◌, ◌↔◌, Bool, true, false, List, length, Option, IsTrue, IsSome, IsNone, IfSome}
use Rattle.std.specs.List.{All, HoldsAt, count_by}
use Rattle.layout_set.specs.declared.breach.Item.TheVariants.{Whole, Def, Static, Func as OfFunc}
use Rattle.layout_set.specs.declared.primitive.Primitive.{Primitive}
use Rattle.layout_set.specs.declared.primitive.Primitive.TheVariants.{I128, U128}
use Rattle.layout_set.specs.declared.set.Set.{Set}
use Rattle.layout_set.specs.declared.set.Case.{Case}
use Rattle.layout_set.specs.declared.set.Tag.{Tag}
use Rattle.layout_set.specs.declared.set.Selector.{Selector}
use Rattle.layout_set.specs.declared.set.Selector.TheVariants.{Exact, Span, Only}
use Rattle.layout_set.specs.declared.set.Variant.{Variant}
use Rattle.layout_set.specs.declared.set.TypeDef.{TypeDef}
use Rattle.layout_set.specs.declared.set.TypeDef.TheVariants.{CLike, Enum}
use Rattle.layout_set.specs.FirstBreach.{Law}
use Rattle.layout_set.specs.Primitives.{prim_width, is_whole}

-- the number is below 2^w, where w is the tag's width in bits
abbrev pub FitsTag : ℕ → Primitive → ℕ → Type 0
FitsTag ptr prim number = number < 2 ^ prim_width ptr prim

-- a C-like enum: its tag is a whole number of at most 64 bits, and each case's number fits it
pub record HasFitCases (ptr : ℕ) (tag : Primitive) (cases : List Case) : Type 0 where
  pub whole : IsTrue (is_whole tag)
  pub narrow : (tag ≢ I128) × (tag ≢ U128)
  pub fit : All (λ c. FitsTag ptr tag c.number) cases

-- each number of the selector fits the tag
abbrev pub SelectorFits : ℕ → Primitive → Selector → Type 0
SelectorFits ptr prim (Exact number) = FitsTag ptr prim number
SelectorFits ptr prim (Span first last) = FitsTag ptr prim first × FitsTag ptr prim last
SelectorFits ptr prim Only = Unit {0}

-- the tag is a whole number, and each variant's numbers fit it
abbrev pub IsFitTag : ℕ → List Variant → Tag → Type 0
IsFitTag ptr variants tag = IsTrue (is_whole tag.prim) × All (λ v. SelectorFits ptr tag.prim v.sel) variants

abbrev pub is_span : Selector → Bool
is_span (Span first last) = true
is_span _ = false

-- an enum of one variant without a tag
abbrev pub IsLone : Option Tag → List Variant → Type 0
IsLone tag variants = IsNone tag × (length variants ≡ 1)

-- an enum: its tag, its selectors and how many variants it has
pub record HasFitVariants (ptr : ℕ) (tag : Option Tag) (variants : List Variant) : Type 0 where
  pub fit : IfSome tag (IsFitTag ptr variants)
  pub only : All (λ v. (v.sel ≡ Only) ↔ IsLone tag variants) variants
  pub spans : IsSome tag → count_by (λ v. is_span v.sel) variants ≤ 1
  pub many : 2 ≤ length variants → IsSome tag
  pub none : length variants ≡ 0 → IsNone tag

unfoldable pub HasFitNumbers : ℕ → TypeDef → Type 0
HasFitNumbers ptr (CLike name tag cases) = HasFitCases ptr tag cases
HasFitNumbers ptr (Enum name size align params tag variants) = HasFitVariants ptr tag variants
HasFitNumbers ptr _ = Unit {0}

abbrev pub Law5 : Set → Law
Law5 set Whole = Unit {0}
Law5 set (Def i) = HoldsAt (HasFitNumbers set.target.ptr) set.types i
Law5 set (Static i) = Unit {0}
Law5 set (OfFunc i) = Unit {0}
