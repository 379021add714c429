-- Numbers and ranges of numbers in a span.
use Rattle.std.proofs.Common.{◌≡◌, ℕ, ◌+◌, ◌<◌, ◌≤◌, ◌⊎◌, inl, inr, ◌==◌, nat_le, ◌&&◌, ◌||◌, Bool, true, false, if◌then◌else◌, sym, subst, arith}
use Rattle.std.specs.Bool.{Decides}
use Rattle.std.proofs.lemmas.Bool.{cases_lt}
use Rattle.std.proofs.lemmas.Bool.Decides.{nat_tests}
use Rattle.layout_honest.specs.declared.honesty.Niche.{Niche}
use Rattle.layout_honest.specs.Honest.{InSpan}
use Rattle.layout_honest.specs.Lies.{in_span, range_lies}

-- all numbers of a range are in the span
abbrev pub RangeIn : ℕ → ℕ → ℕ → ℕ → Type 0
RangeIn first last low high = (n : ℕ) → low ≤ n → n ≤ high → InSpan first last n

le_true : (a b : ℕ) → a ≤ b → nat_le a b ≡ true
le_true a b h = grind (arith, nat_tests, h)

le_false : (a b : ℕ) → b < a → nat_le a b ≡ false
le_false a b h = grind (arith, nat_tests, h)

true_le : (a b : ℕ) → nat_le a b ≡ true → a ≤ b
true_le a b h = grind (arith, nat_tests, h)

up_in : (first last n : ℕ) → first ≤ last → InSpan first last n → (first ≤ n) × (n ≤ last)
up_in first last n h (inl x) = x
up_in first last n h (inr (l, x)) = elim (let f : ⊥ = omega (arith, h, l) in f) [ ]

around_in : (first last n : ℕ) → last < first → InSpan first last n → (first ≤ n) ⊎ (n ≤ last)
around_in first last n h (inl (a, b)) = elim (let f : ⊥ = omega (arith, h, a, b) in f) [ ]
around_in first last n h (inr (l, x)) = x

up_decides : (first last n : ℕ) → first ≤ last → Decides (nat_le first n && nat_le n last) (InSpan first last n)
up_decides first last n h = (
  (λ e. inl (let a : first ≤ n = grind (arith, nat_tests, e) in let b : n ≤ last = grind (arith, nat_tests, e) in (a, b))),
  λ s. let x = up_in first last n h s in let a = x.0 in let b = x.1 in let t = le_true first n a in let u = le_true n last b in grind (arith, nat_tests, t, u),
)

around_decides : (first last n : ℕ) → last < first → Decides (nat_le first n || nat_le n last) (InSpan first last n)
around_decides first last n h = (forth, back)
  where
    forth : (nat_le first n || nat_le n last) ≡ true → InSpan first last n
    forth e = elim (cases_lt n first) as (λ _. InSpan first last n) [
      | inl l ↦ inr (h, inr (let b : n ≤ last = grind (arith, nat_tests, e, l) in b))
      | inr g ↦ inr (h, inl g)
    ]

    by_part : (first ≤ n) ⊎ (n ≤ last) → (nat_le first n || nat_le n last) ≡ true
    by_part (inl a) = let t = le_true first n a in grind (arith, nat_tests, t)
    by_part (inr b) = let t = le_true n last b in grind (arith, nat_tests, t)

    back : InSpan first last n → (nat_le first n || nat_le n last) ≡ true
    back s = by_part (around_in first last n h s)

pub in_span_decides : (niche : Niche) (n : ℕ) → Decides (in_span niche n) (InSpan niche.first niche.last n)
in_span_decides niche n = elim (cases_lt niche.last niche.first) as (λ _. Decides (in_span niche n) (InSpan niche.first niche.last n)) [
  | inl l ↦ subst (λ (b : Bool). Decides (if b then nat_le niche.first n && nat_le n niche.last else nat_le niche.first n || nat_le n niche.last) (InSpan niche.first niche.last n)) (sym (le_false niche.first niche.last l)) (around_decides niche.first niche.last n l)
  | inr g ↦ subst (λ (b : Bool). Decides (if b then nat_le niche.first n && nat_le n niche.last else nat_le niche.first n || nat_le n niche.last) (InSpan niche.first niche.last n)) (sym (le_true niche.first niche.last g)) (up_decides niche.first niche.last n g)
]

up_range : (first last low high : ℕ) → low ≤ high → first ≤ last → Decides (nat_le first low && nat_le high last) (RangeIn first last low high)
up_range first last low high o h = (
  (λ e n a b. inl (let x : first ≤ low = grind (arith, nat_tests, e) in let y : high ≤ last = grind (arith, nat_tests, e) in (omega (arith, x, a), omega (arith, y, b)))),
  λ all. let x = (up_in first last low h (all low (omega arith) o)).0 in let y = (up_in first last high h (all high o (omega arith))).1 in let t = le_true first low x in let u = le_true high last y in grind (arith, nat_tests, t, u),
)

around_range : (first last low high : ℕ) → low ≤ high → last < first → Decides (nat_le first low || (nat_le high last || first == last + 1)) (RangeIn first last low high)
around_range first last low high o h = (forth, back)
  where
    forth : (nat_le first low || (nat_le high last || first == last + 1)) ≡ true → RangeIn first last low high
    forth e n a b = elim (cases_lt n first) as (λ _. InSpan first last n) [
      | inl l ↦ inr (h, inr (let c : n ≤ last = grind (arith, nat_tests, e, l, a, b) in c))
      | inr g ↦ inr (h, inl g)
    ]

    gap : low ≤ last → last < high → RangeIn first last low high → first ≡ last + 1
    gap x y all = by_part (around_in first last (last + 1) h (all (last + 1) (omega (arith, x)) (omega (arith, y))))
      where
        by_part : (first ≤ last + 1) ⊎ (last + 1 ≤ last) → first ≡ last + 1
        by_part (inl a) = omega (arith, a, h)
        by_part (inr b) = omega (arith, b)

    start : (first ≤ low) ⊎ (low ≤ last) → RangeIn first last low high → (nat_le first low || (nat_le high last || first == last + 1)) ≡ true
    start (inl a) all = let t = le_true first low a in grind (arith, nat_tests, t)
    start (inr b) all = elim (cases_lt last high) as (λ _. (nat_le first low || (nat_le high last || first == last + 1)) ≡ true) [
      | inl l ↦ let g = gap b l all in grind (arith, nat_tests, g)
      | inr g ↦ let t = le_true high last g in grind (arith, nat_tests, t)
    ]

    back : RangeIn first last low high → (nat_le first low || (nat_le high last || first == last + 1)) ≡ true
    back all = start (around_in first last low h (all low (omega arith) o)) all

pub range_decides : (niche : Niche) (low high : ℕ) → low ≤ high → Decides (range_lies niche low high) (RangeIn niche.first niche.last low high)
range_decides niche low high o = elim (cases_lt niche.last niche.first) as (λ _. Decides (range_lies niche low high) (RangeIn niche.first niche.last low high)) [
  | inl l ↦ subst (λ (b : Bool). Decides (if b then nat_le niche.first low && nat_le high niche.last else nat_le niche.first low || (nat_le high niche.last || niche.first == niche.last + 1)) (RangeIn niche.first niche.last low high)) (sym (le_false niche.first niche.last l)) (around_range niche.first niche.last low high o l)
  | inr g ↦ subst (λ (b : Bool). Decides (if b then nat_le niche.first low && nat_le high niche.last else nat_le niche.first low || (nat_le high niche.last || niche.first == niche.last + 1)) (RangeIn niche.first niche.last low high)) (sym (le_true niche.first niche.last g)) (up_range niche.first niche.last low high o g)
]
