-- How many types of the set come before an entry.
use Rattle.std.proofs.Common.{◌≡◌, ◌<◌, ◌≤◌, ◌+◌, ◌^◌, ℕ, ◌&&◌, zero, suc, List, [], ◌∷◌, length, map, filter, slice_get, get_or, cond, nat_lt, Bool, true, false, Some, ◌⊎◌, inl, inr, refl, sym, ap, subst, ◌∙◌, arith, ltb-true, ltb-false}
use Rattle.std.specs.List.{count_by}
use Rattle.std.specs.List.Sorted.{IsNonDecreasingBy, IsPartitionPoint}
use Rattle.std.proofs.lemmas.Bool.{cases_lt}
use Rattle.std.proofs.lemmas.List.Recursion.{is_count_by}
use Rattle.std.proofs.lemmas.List.Sums.{count_by-le-length, length-filter}
use Rattle.std.proofs.lemmas.Option.{get_or_from_slice_get, slice_get-get_or}
use Rattle.entry_tree.proofs.Finds.{length_of_map, within}
use Rattle.dwarf_entries.specs.Dies.{Die, Info}
use Rattle.dwarf_entries.specs.TypeLinks.{is_type_of_set, place_in_set}
use Rattle.dwarf_dies.specs.Laws.{AreLinked}
use Rattle.dwarf_dies.specs.Views.{die_of, number_of_die}
use Rattle.dwarf_links.specs.SetTypes.{numbers_of_types}

-- how many pass a test, item by item
abbrev counted : {X : Type 0} → (X → Bool) → List X → ℕ
counted test [] = 0
counted test (x ∷ xs) = cond (test x) (1 + counted test xs) (counted test xs)

counted_is : {X : Type 0} (test : X → Bool) (xs : List X) → counted test xs ≡ count_by test xs
counted_is test xs = is_count_by (counted test) test refl (λ x ys. refl) xs

is_below : (a b : ℕ) → a < b → nat_lt a b ≡ true
is_below a b h = by_test (nat_lt a b) refl
  where
    by_test : (t : Bool) → nat_lt a b ≡ t → nat_lt a b ≡ true
    by_test true g = g
    by_test false g = absurd (let l = ltb-false a b g in omega (arith, l, h))

is_not_below : (a b : ℕ) → b ≤ a → nat_lt a b ≡ false
is_not_below a b h = by_test (nat_lt a b) refl
  where
    by_test : (t : Bool) → nat_lt a b ≡ t → nat_lt a b ≡ false
    by_test true g = absurd (let l = ltb-true a b g in omega (arith, l, h))
    by_test false g = g

-- a place that parts a list by a test is how many pass it
parted_count : (test : ℕ → Bool) (xs : List ℕ) (place : ℕ) → place ≤ length xs
    → ((i x : ℕ) → i < place → slice_get xs i ≡ Some x → test x ≡ true) → ((i x : ℕ) → place ≤ i → slice_get xs i ≡ Some x → test x ≡ false) → place ≡ counted test xs
parted_count test [] place le passing failing = omega (arith, le)
parted_count test (x ∷ xs) zero le passing failing =
    parted_count test xs zero (omega arith) (λ i y l g. absurd (omega (arith, l))) (λ i y l g. failing (suc i) y (omega arith) g)
    ∙ sym (ap (λ b. cond b (1 + counted test xs) (counted test xs)) (failing 0 x (omega arith) refl))
parted_count test (x ∷ xs) (suc place) le passing failing =
    let more = parted_count test xs place (omega (arith, le)) (λ i y l g. passing (suc i) y (omega (arith, l)) g) (λ i y l g. failing (suc i) y (omega (arith, l)) g) in
    (let z : suc place ≡ 1 + counted test xs = omega (arith, more) in z) ∙ sym (ap (λ b. cond b (1 + counted test xs) (counted test xs)) (passing 0 x (omega arith) refl))

one_counted : (test other : Die → Bool) (below : ℕ → Bool) (d : Die) (ds : List Die) → below d.entry.number ≡ other d
    → counted below (map number_of_die (filter test ds)) ≡ counted (λ o. test o && other o) ds → (b : Bool)
    → counted below (map number_of_die (cond b (d ∷ filter test ds) (filter test ds)))
    ≡ cond (b && other d) (1 + counted (λ o. test o && other o) ds) (counted (λ o. test o && other o) ds)
one_counted test other below d ds same more true =
    ap (λ b. cond b (1 + counted below (map number_of_die (filter test ds))) (counted below (map number_of_die (filter test ds)))) same
    ∙ ap (λ n. cond (other d) (1 + n) n) more
one_counted test other below d ds same more false = more

-- the numbers of those that pass one test, and then another
both_counted : (test other : Die → Bool) (below : ℕ → Bool) (ds : List Die) → ((i : ℕ) (o : Die) → slice_get ds i ≡ Some o → below o.entry.number ≡ other o)
    → counted below (map number_of_die (filter test ds)) ≡ counted (λ o. test o && other o) ds
both_counted test other below [] same = refl
both_counted test other below (d ∷ ds) same = one_counted test other below d ds (same 0 d refl) (both_counted test other below ds (λ i o g. same (suc i) o g)) (test d)

-- an entry begins before another where its number is lower
earlier_is : (info : Info) → AreLinked info → (n : ℕ) (d : Die) → die_of info n ≡ Some d → (i : ℕ) (o : Die) → die_of info i ≡ Some o → nat_lt o.entry.number n ≡ nat_lt o.entry.offset d.entry.offset
earlier_is info laws n d h i o g = elim (cases_lt i n) [
  | inl l ↦ let r = laws.rising i n o d l g h in is_below o.entry.number n (omega (arith, number, l)) ∙ sym (is_below o.entry.offset d.entry.offset r)
  | inr l ↦ is_not_below o.entry.number n (omega (arith, number, l)) ∙ sym (is_not_below o.entry.offset d.entry.offset (at_least (cases_lt n i) l))
]
  where
    number : o.entry.number ≡ i
    number = laws.numbers i o g

    at_least : (n < i) ⊎ (i ≤ n) → n ≤ i → d.entry.offset ≤ o.entry.offset
    at_least (inl m) l = let r = laws.rising n i d o m h g in omega (arith, r)
    at_least (inr m) l =
        let q : Some d ≡ Some o = sym h ∙ ap (die_of info) (let e : n ≡ i = omega (arith, l, m) in e) ∙ g in
        let same : d ≡ o = cc in
        let e = ap (λ (x : Die). x.entry.offset) same in
        omega (arith, e)

-- the numbers rise
abbrev Rise : List ℕ → Type 0
Rise xs = (i j x y : ℕ) → i < j → slice_get xs i ≡ Some x → slice_get xs j ≡ Some y → x < y

-- those of entries that are numbered from k on are at least k, and rise
pub record AreRising (k : ℕ) (xs : List ℕ) : Type 0 where
  pub least : (i x : ℕ) → slice_get xs i ≡ Some x → k ≤ x
  pub rise : Rise xs

one_rises : (test : Die → Bool) (k : ℕ) (d : Die) (ds : List Die) → d.entry.number ≡ k → AreRising (k + 1) (map number_of_die (filter test ds)) → (b : Bool)
    → AreRising k (map number_of_die (cond b (d ∷ filter test ds) (filter test ds)))
one_rises test k d ds number more false = record { least = λ i x h. (let l = more.least i x h in omega (arith, l)); rise = more.rise }
one_rises test k d ds number more true = record { least = least_with; rise = rise_with }
  where
    least_with : (i x : ℕ) → slice_get (d.entry.number ∷ map number_of_die (filter test ds)) i ≡ Some x → k ≤ x
    least_with zero x h = let q : d.entry.number ≡ x = cc in omega (arith, q, number)
    least_with (suc i) x h = let l = more.least i x h in omega (arith, l)

    rise_with : Rise (d.entry.number ∷ map number_of_die (filter test ds))
    rise_with i zero x y l h g = absurd (omega (arith, l))
    rise_with zero (suc j) x y l h g = let q : d.entry.number ≡ x = cc in let m = more.least j y g in omega (arith, q, number, m)
    rise_with (suc i) (suc j) x y l h g = more.rise i j x y (omega (arith, l)) h g

pub types_rise : (test : Die → Bool) (k : ℕ) (ds : List Die) → ((i : ℕ) (d : Die) → slice_get ds i ≡ Some d → d.entry.number ≡ k + i) → AreRising k (map number_of_die (filter test ds))
types_rise test k [] numbers = record { least = λ i x h. absurd (cc); rise = λ i j x y l h g. absurd (cc) }
types_rise test k (d ∷ ds) numbers =
    one_rises test k d ds (let z : d.entry.number ≡ k = omega (arith, numbers 0 d refl) in z) (types_rise test (k + 1) ds (λ i e g. omega (arith, numbers (suc i) e g))) (test d)

-- the types of the set, by their numbers, and there are few enough of these
pub record IsTable (info : Info) (types : List ℕ) : Type 0 where
  pub laws : AreLinked info
  pub types_are : types ≡ numbers_of_types info

-- the types of the set don't fall
pub types_sorted : (info : Info) (types : List ℕ) → IsTable info types → IsNonDecreasingBy (λ x. x) types
types_sorted info types t i j d le lt = elim (cases_lt i j) [
  | inl l ↦ let r = risen i j (get_or types i d) (get_or types j d) l (slice_get-get_or types i d (omega (arith, le, lt))) (slice_get-get_or types j d lt) in omega (arith, r)
  | inr l ↦ let q = ap (λ k. get_or types k d) (let e : i ≡ j = omega (arith, le, l) in e) in omega (arith, q)
]
  where
    numbered : AreRising 0 (numbers_of_types info)
    numbered = types_rise (is_type_of_set info) 0 info.dies (λ k o g. omega (arith, t.laws.numbers k o g))

    risen : Rise types
    risen = subst Rise (sym t.types_are) numbered.rise

-- a place that parts them by the number of an entry is how many come before it
pub place_is : (info : Info) (types : List ℕ) → IsTable info types → (n place : ℕ) → place ≤ length types
    → IsPartitionPoint (λ x. nat_lt x n ≡ true) (λ x. nat_lt x n ≡ false) types place → (d : Die) → die_of info n ≡ Some d → place ≡ place_in_set info d
place_is info types t n place le parted d h =
    parted_count (λ x. nat_lt x n) types place le
    (λ i x l g. ap (λ y. nat_lt y n) (sym (get_or_from_slice_get types i x 0 g)) ∙ parted.0 i 0 (omega arith) l)
    (λ i x l g. ap (λ y. nat_lt y n) (sym (get_or_from_slice_get types i x 0 g)) ∙ parted.1 i 0 l (within types i x g))
    ∙ ap (counted (λ x. nat_lt x n)) t.types_are
    ∙ both_counted (is_type_of_set info) (λ o. nat_lt o.entry.offset d.entry.offset) (λ x. nat_lt x n) info.dies (earlier_is info t.laws n d h)
    ∙ counted_is (λ o. is_type_of_set info o && nat_lt o.entry.offset d.entry.offset) info.dies

-- there are few enough for numbers of 32 bits
pub few_types : (info : Info) (types : List ℕ) → IsTable info types → length types < 2 ^ 32
few_types info types t =
    let all = count_by-le-length (is_type_of_set info) info.dies in
    omega (arith, t.laws.few, all, length-filter (is_type_of_set info) info.dies, length_of_map number_of_die (filter (is_type_of_set info) info.dies), ap (λ (l : List ℕ). length l) t.types_are)
