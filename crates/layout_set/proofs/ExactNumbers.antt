-- Exact numbers that fit their tag.
use Rattle.std.proofs.Common.{◌≡◌, ℕ, ◌+◌, ◌^◌, ◌≤◌, List, [], ◌∷◌, Option, Some, None, refl, arith}
use Rattle.std.specs.List.{All, filter_map, cons_option}
use Rattle.std.proofs.lemmas.List.Elements.{All-nil, All-cons, All-head, All-tail}
use Rattle.layout_set.specs.declared.primitive.Primitive.{Primitive}
use Rattle.layout_set.specs.declared.set.Selector.{Selector}
use Rattle.layout_set.specs.declared.set.Selector.TheVariants.{Exact, Span, Only}
use Rattle.layout_set.specs.declared.set.Variant.{Variant}
use Rattle.layout_set.specs.Primitives.{prim_width}
use Rattle.layout_set.specs.Law5.{SelectorFits}
use Rattle.layout_set.specs.Law8.{exact_number, exact_numbers}

with_option : {Y : Type 0} (Q : Y → Type 0) (o : Option Y) (ys : List Y) → ((y : Y) → o ≡ Some y → Q y) → All Q ys → All Q (cons_option o ys)
with_option Q None ys one all = all
with_option Q (Some y) ys one all = All-cons Q y ys (one y refl) all

-- what holds of all items holds of what is picked from them
pub all_picked : {X Y : Type 0} (P : X → Type 0) (Q : Y → Type 0) (h : X → Option Y) → ((x : X) (y : Y) → P x → h x ≡ Some y → Q y) → (xs : List X) → All P xs → All Q (filter_map h xs)
all_picked P Q h each [] all = All-nil Q
all_picked P Q h each (x ∷ xs) all = with_option Q (h x) (filter_map h xs) (λ y e. each x y (All-head P x xs all) e) (all_picked P Q h each xs (All-tail P x xs all))

fits_below : (ptr : ℕ) (prim : Primitive) (greatest : ℕ) → greatest + 1 ≡ 2 ^ prim_width ptr prim → (sel : Selector) (number : ℕ) → SelectorFits ptr prim sel → exact_number sel ≡ Some number → number ≤ greatest
fits_below ptr prim greatest e (Exact n) number fits is = let same : n ≡ number = cc in omega (arith, e, fits, same)
fits_below ptr prim greatest e (Span first last) number fits is = cc
fits_below ptr prim greatest e Only number fits is = cc

-- exact numbers that fit a tag are at most the greatest that does
pub exact_below : (ptr : ℕ) (prim : Primitive) (greatest : ℕ) (variants : List Variant) → greatest + 1 ≡ 2 ^ prim_width ptr prim → All (λ v. SelectorFits ptr prim v.sel) variants → All (λ n. n ≤ greatest) (exact_numbers variants)
exact_below ptr prim greatest variants e all = all_picked (λ v. SelectorFits ptr prim v.sel) (λ n. n ≤ greatest) (λ v. exact_number v.sel) (λ v n fits is. fits_below ptr prim greatest e v.sel n fits is) variants all
