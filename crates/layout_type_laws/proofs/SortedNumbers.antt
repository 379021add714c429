-- Numbers in order.
use Rattle.std.proofs.Common.{◌≡◌, ◌≢◌, ℕ, ◌+◌, ◌-◌, ◌<◌, ◌≤◌, List, [], ◌∷◌, length, get_or, Bool, true, false, refl, sym, ap, subst, ◌∙◌, arith}
use Rattle.std.specs.Bool.{Decides}
use Rattle.std.specs.Ordering.{nat_cmp, is_lt}
use Rattle.std.specs.List.{AllPairs, AllAdjacentBelow}
use Rattle.std.specs.List.Sorted.{IsPermutation, IsSorted}
use Rattle.std.proofs.lemmas.List.Sorted.{IsPermutation-sym}
use Rattle.std.proofs.lemmas.Grind.{common_steps}
use Rattle.layout_type_laws.proofs.Pairs.{pairs_from_neighbours, pairs_permuted}
use Rattle.layout_set.specs.Numbers.{AreDistinct, last_of}
use Rattle.layout_set.specs.Law8.{FollowsExact, IsSpanOf}

no_fall : (a b : ℕ) → is_lt (nat_cmp b a) ≡ false → a ≤ b
no_fall a b e = grind (arith, common_steps)

below : (a b : ℕ) → a ≤ b → a ≢ b → a < b
below a b h n = omega (arith, h, n)

differ : (a b : ℕ) → a < b → a ≢ b
differ a b h e = let z : ⊥ = omega (arith, h, e) in z

pub neighbours_decide : (xs ys : List ℕ) (r : Bool) → IsPermutation xs ys → IsSorted nat_cmp ys → Decides r (AllAdjacentBelow (λ a b. a < b) ys (length ys)) → Decides r (AreDistinct xs)
unfolding AreDistinct
neighbours_decide xs ys r p up told = (forth, back)
  where
    flip : (a b : ℕ) → a ≢ b → b ≢ a
    flip a b n e = n (sym e)

    forth : r ≡ true → AllPairs (λ a b. a ≢ b) xs
    forth e = pairs_permuted (λ a b. a ≢ b) flip ys xs (IsPermutation-sym xs ys p)
        (λ i j d h k. differ (get_or ys i d) (get_or ys j d) (pairs_from_neighbours (λ a b. a < b) (λ a b c x y. omega (arith, x, y)) ys (told.0 e) i j d h k))

    back : AllPairs (λ a b. a ≢ b) xs → r ≡ true
    back all = told.1 (λ k d h. below (get_or ys k d) (get_or ys (k + 1) d) (no_fall (get_or ys k d) (get_or ys (k + 1) d) (up k d (omega arith) h))
        (pairs_permuted (λ a b. a ≢ b) flip xs ys p all k (k + 1) d (omega arith) h))

last_at : (number : ℕ) (rest : List ℕ) (d : ℕ) → last_of number rest ≡ get_or (number ∷ rest) (length rest) d
last_at number [] d = refl
last_at number (next ∷ rest) d = last_at next rest d

-- the span of a list by its first and its last number
pub span_of_ends : (count : ℕ) (numbers : List ℕ) (first last : ℕ) (r : Bool) → 0 < length numbers → Decides r (FollowsExact count (get_or numbers 0 0) (get_or numbers (length numbers - 1) 0) numbers first last) → Decides r (IsSpanOf count numbers first last)
span_of_ends count [] first last r h d = elim (let f : ⊥ = omega (arith, h) in f) [ ]
span_of_ends count (from ∷ rest) first last r h d =
    subst (λ to. Decides r (FollowsExact count from to (from ∷ rest) first last)) (ap (λ n. get_or (from ∷ rest) n 0) (let e : length (from ∷ rest) - 1 ≡ length rest = omega arith in e) ∙ sym (last_at from rest 0)) d
