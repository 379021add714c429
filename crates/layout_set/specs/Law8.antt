-- Law 8: numbers of cases and of variants are distinct, and a span is what the exact numbers leave.
use Rattle.std.specs.Prelude.{◌≡◌, ℕ, ◌+◌, ◌-◌, ◌%◌, ◌^◌, ◌<◌, List, [], ◌∷◌, length, map, Option, Some, None}
use Rattle.std.specs.List.{All, AllAdjacentBelow, HoldsAt, filter_map}
use Rattle.layout_set.specs.declared.breach.Item.TheVariants.{Whole, Def, Static, Func as OfFunc}
use Rattle.layout_set.specs.declared.set.Set.{Set}
use Rattle.layout_set.specs.declared.set.Case.{Case}
use Rattle.layout_set.specs.declared.set.Tag.{Tag}
use Rattle.layout_set.specs.declared.set.Selector.{Selector}
use Rattle.layout_set.specs.declared.set.Selector.TheVariants.{Exact, Span}
use Rattle.layout_set.specs.declared.set.Variant.{Variant}
use Rattle.layout_set.specs.declared.set.TypeDef.{TypeDef}
use Rattle.layout_set.specs.declared.set.TypeDef.TheVariants.{CLike, Enum}
use Rattle.layout_set.specs.FirstBreach.{Law}
use Rattle.layout_set.specs.Numbers.{AreDistinct, difference_of, last_of}
use Rattle.layout_set.specs.Primitives.{prim_width}

abbrev pub case_numbers : List Case → List ℕ
case_numbers cases = map (λ c. c.number) cases

abbrev pub exact_number : Selector → Option ℕ
exact_number (Exact number) = Some number
exact_number _ = None

-- the exact numbers of an enum, in the order of its variants
abbrev pub exact_numbers : List Variant → List ℕ
exact_numbers variants = filter_map (λ v. exact_number v.sel) variants

-- The exact numbers rise strictly from the first, `from`, to the last, `to`, modulo `count`. Then
-- comes the span, of at least one number, which goes on to the number before `from`.
pub record FollowsExact (count from to : ℕ) (numbers : List ℕ) (first last : ℕ) : Type 0 where
  pub rising : AllAdjacentBelow (λ a b. difference_of count from a < difference_of count from b) numbers (length numbers)
  pub room : difference_of count from to < count - 1
  pub begin : first ≡ (to + 1) % count
  pub end : last ≡ (from + count - 1) % count

-- there are exact numbers, and the span is what they leave
abbrev pub IsSpanOf : ℕ → List ℕ → ℕ → ℕ → Type 0
IsSpanOf count [] first last = ⊥
IsSpanOf count (from ∷ rest) first last = FollowsExact count from (last_of from rest) (from ∷ rest) first last

abbrev pub FollowsNumbers : ℕ → List ℕ → Selector → Type 0
FollowsNumbers count numbers (Span first last) = IsSpanOf count numbers first last
FollowsNumbers count numbers _ = Unit {0}

-- each span follows the exact numbers modulo 2^w, where w is the tag's width in bits
abbrev pub SpansFollow : ℕ → Option Tag → List Variant → Type 0
SpansFollow ptr None variants = Unit {0}
SpansFollow ptr (Some tag) variants = All (λ v. FollowsNumbers (2 ^ prim_width ptr tag.prim) (exact_numbers variants) v.sel) variants

unfoldable pub HasGoodNumbers : ℕ → TypeDef → Type 0
HasGoodNumbers ptr (CLike name tag cases) = AreDistinct (case_numbers cases)
HasGoodNumbers ptr (Enum name size align params tag variants) = AreDistinct (exact_numbers variants) × SpansFollow ptr tag variants
HasGoodNumbers ptr _ = Unit {0}

abbrev pub Law8 : Set → Law
Law8 set Whole = Unit {0}
Law8 set (Def i) = HoldsAt (HasGoodNumbers set.target.ptr) set.types i
Law8 set (Static i) = Unit {0}
Law8 set (OfFunc i) = Unit {0}
