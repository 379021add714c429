-- Spans in the order of their begins.
use Rattle.std.proofs.Common.{Ordering, nat_lt, ◌≡◌, ℕ, ◌+◌, ◌<◌, ◌≤◌, inl, inr, List, length, get_or, Bool, true, false, arith}
use Rattle.std.specs.Bool.{Decides}
use Rattle.std.specs.Ordering.{nat_cmp, ordering_then, is_lt}
use Rattle.std.specs.List.{AllAdjacentBelow, All, filter}
use Rattle.std.proofs.lemmas.List.Elements.{All-weaker, filter_passes}
use Rattle.std.specs.List.Sorted.{IsPermutation, IsSorted}
use Rattle.std.proofs.lemmas.List.Sorted.{IsPermutation-sym, All-permutation}
use Rattle.std.proofs.lemmas.Grind.{common_steps}
use Rattle.layout_set.specs.Overlap.{Before, Apart, AreApart}
use Rattle.layout_type_laws.proofs.Pairs.{pairs_from_neighbours, pairs_permuted}

abbrev pub span_cmp : ℕ × ℕ → ℕ × ℕ → Ordering
span_cmp x y = ordering_then (nat_cmp x.0 y.0) (nat_cmp x.1 y.1)

first_rises : (a b : ℕ × ℕ) → is_lt (span_cmp b a) ≡ false → a.0 ≤ b.0
first_rises a b e = grind (arith, common_steps)

before_of_apart : (a b : ℕ × ℕ) → 0 < b.1 → a.0 ≤ b.0 → Apart a b → Before a b
before_of_apart a b h le (inl x) = x
before_of_apart a b h le (inr x) = omega (arith, h, le, x)

both_ways : (a b : ℕ × ℕ) → Apart a b → Apart b a
both_ways a b (inl x) = inr x
both_ways a b (inr x) = inl x

pub neighbours_decide : (xs ys : List (ℕ × ℕ)) (r : Bool) → IsPermutation xs ys → IsSorted span_cmp ys → All (λ s. 0 < s.1) xs → Decides r (AllAdjacentBelow Before ys (length ys)) → Decides r (AreApart xs)
unfolding AreApart
neighbours_decide xs ys r p up some told = (yes, back)
  where
    yes : r ≡ true → AreApart xs
    yes e = pairs_permuted Apart both_ways ys xs (IsPermutation-sym xs ys p)
        (λ i j d h k. inl (pairs_from_neighbours Before (λ a b c x y. omega (arith, x, y)) ys (told.0 e) i j d h k))

    back : AreApart xs → r ≡ true
    back all = told.1 (λ k e h. before_of_apart (get_or ys k e) (get_or ys (k + 1) e) (All-permutation (λ s. 0 < s.1) xs ys p some (k + 1) e h) (first_rises (get_or ys k e) (get_or ys (k + 1) e) (up k e (omega arith) h))
        (pairs_permuted Apart both_ways xs ys p all k (k + 1) e (omega arith) h))

-- the spans that are kept have a length
pub kept_spans : (xs : List (ℕ × ℕ)) → All (λ s. 0 < s.1) (filter (λ s. nat_lt 0 s.1) xs)
kept_spans xs = All-weaker (λ s. nat_lt 0 s.1 ≡ true) (λ s. 0 < s.1) (λ s e. grind (arith, common_steps)) (filter (λ s. nat_lt 0 s.1) xs) (filter_passes (λ s. nat_lt 0 s.1) xs)
