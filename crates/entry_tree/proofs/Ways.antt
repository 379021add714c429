-- Ways from entries to their roots.
use Rattle.std.proofs.Common.{◌≡◌, ℕ, zero, suc, ◌+◌, ◌-◌, ◌<◌, ◌≤◌, List, [], ◌∷◌, ◌++◌, length, take, Option, Some, None, option_and_then, SomeIff, refl, sym, ap, subst, ◌∙◌, arith, ◌⊎◌, inl, inr, length-append, length-take}
use Rattle.entry_tree.specs.Entries.{Entry, up_of, last_of, OnWay, here, above, MayPush, counted_up, depth_of}
use Rattle.std.proofs.lemmas.Bool.{cases_lt}
use Rattle.entry_tree.specs.Invariant.{AreInPrefixOrder}
use Rattle.entry_tree.proofs.Finds.{get_push, get_last}

pub way_then : (t : List Entry) (i j k : ℕ) → OnWay t i j → OnWay t j k → OnWay t i k
way_then t i j k here w = w
way_then t i j k (above m e v) w = above m e (way_then t m j k v w)

-- each parent stands before its entry
abbrev pub AreEarlier : List Entry → Type 0
AreEarlier t = (i u : ℕ) → up_of t i ≡ Some u → u < i

pub way_le : (t : List Entry) (i k : ℕ) → AreEarlier t → OnWay t i k → k ≤ i
way_le t i k h here = omega arith
way_le t i k h (above j e w) = let a = way_le t j k h w in let b = h i j e in omega arith

pub has_up : (t : List Entry) (i u : ℕ) → up_of t i ≡ Some u → i < length t
has_up [] i u e = cc
has_up (x ∷ t) zero u e = omega arith
has_up (x ∷ t) (suc i) u e = let h = has_up t i u e in omega arith

pub up_take : (t : List Entry) (m i : ℕ) → i < m → up_of (take m t) i ≡ up_of t i
up_take t zero i h = absurd (omega arith)
up_take [] (suc m) i h = refl
up_take (x ∷ t) (suc m) zero h = refl
up_take (x ∷ t) (suc m) (suc i) h = up_take t m i (omega arith)

pub up_push : (t : List Entry) (e : Entry) (i : ℕ) → i < length t → up_of (t ++ e ∷ []) i ≡ up_of t i
up_push t e i h = ap (option_and_then (λ x. x.up)) (get_push t e i h)

pub up_last : (t : List Entry) (e : Entry) → up_of (t ++ e ∷ []) (length t) ≡ e.up
up_last t e = ap (option_and_then (λ x. x.up)) (get_last t e)

-- a way among the first entries is a way among all
pub way_take : (t : List Entry) (m i k : ℕ) → OnWay (take m t) i k → OnWay t i k
way_take t m i k here = here
way_take t m i k (above j e w) =
    let a = has_up (take m t) i j e in
    let b : i < m = omega (arith, length-take m t) in
    above j (sym (up_take t m i b) ∙ e) (way_take t m j k w)

earlier_by : (t : List Entry) (i u : ℕ) (p : Option ℕ) → p ≡ Some u → i < length t → MayPush (take i t) p → u < i
earlier_by t i u None e h m = cc
earlier_by t i u (Some k) e h m = let is : k ≡ u = cc in omega (arith, m.0, length-take i t)

pub earlier : (t : List Entry) → AreInPrefixOrder t → AreEarlier t
earlier t order i u e = let h = has_up t i u e in earlier_by t i u (up_of t i) e h (order i h)

-- where k is above an entry or is it, the entry is k, or k is above its parent or is it
pub way_cases : (t : List Entry) (i k : ℕ) → OnWay t i k → (i ≡ k) ⊎ ((j : ℕ) × ((up_of t i ≡ Some j) × OnWay t j k))
way_cases t i k here = inl refl
way_cases t i k (above j e w) = inr (j, (e, w))

-- a parent stands below n
abbrev pub IsBelow : Option ℕ → ℕ → Type 0
IsBelow u n = (k : ℕ) → u ≡ Some k → k < n

pub none_counted : (t : List Entry) (n : ℕ) → counted_up t n None ≡ 0
none_counted t zero = refl
none_counted t (suc n) = refl

-- what is counted does not depend on how much may be counted, where that is enough
counted_same : (t : List Entry) → AreEarlier t → (n m : ℕ) (u : Option ℕ) → IsBelow u n → IsBelow u m → counted_up t n u ≡ counted_up t m u
counted_same t h n m None a b = none_counted t n ∙ sym (none_counted t m)
counted_same t h zero m (Some i) a b = absurd (let q = a i refl in omega arith)
counted_same t h (suc n) zero (Some i) a b = absurd (let q = b i refl in omega arith)
counted_same t h (suc n) (suc m) (Some i) a b =
    let p = a i refl in
    let q = b i refl in
    ap (λ d. d + 1) (counted_same t h n m (up_of t i) (λ k e. let l = h i k e in omega arith) (λ k e. let l = h i k e in omega arith))

-- an entry is one deeper than its parent
pub depth_step : (t : List Entry) → AreEarlier t → (i : ℕ) → i < length t → depth_of t (Some i) ≡ depth_of t (up_of t i) + 1
depth_step t h i l =
    counted_same t h (length t) (suc (length t)) (Some i) (λ k e. let is : i ≡ k = cc in omega arith) (λ k e. let is : i ≡ k = cc in omega arith)

counted_push : (t : List Entry) (e : Entry) → AreEarlier t → (n : ℕ) (u : Option ℕ) → IsBelow u (length t) → counted_up (t ++ e ∷ []) n u ≡ counted_up t n u
counted_push t e h zero u b = refl
counted_push t e h (suc n) None b = refl
counted_push t e h (suc n) (Some i) b =
    let l = b i refl in
    ap (λ v. counted_up (t ++ e ∷ []) n v + 1) (up_push t e i l) ∙ ap (λ d. d + 1) (counted_push t e h n (up_of t i) (λ k q. let m = h i k q in omega arith))

pub length_push : (t : List Entry) (e : Entry) → length (t ++ e ∷ []) ≡ suc (length t)
length_push t e = omega (arith, length-append t (e ∷ []))

-- an entry more changes no depth
pub depth_push : (t : List Entry) (e : Entry) → AreEarlier t → (u : Option ℕ) → IsBelow u (length t) → depth_of (t ++ e ∷ []) u ≡ depth_of t u
depth_push t e h u b =
    ap (λ n. counted_up (t ++ e ∷ []) n u) (length_push t e) ∙ counted_push t e h (suc (length t)) u b ∙
    counted_same t h (suc (length t)) (length t) u (λ k q. let l = b k q in omega arith) b

pub may_push_below : (t : List Entry) (u : Option ℕ) → MayPush t u → IsBelow u (length t)
may_push_below t None m k e = cc
may_push_below t (Some j) m k e = let is : j ≡ k = cc in let l = m.0 in omega arith

take_push : (t : List Entry) (e : Entry) (m : ℕ) → m ≤ length t → take m (t ++ e ∷ []) ≡ take m t
take_push t e zero h = refl
take_push [] e (suc m) h = absurd (omega arith)
take_push (x ∷ t) e (suc m) h = ap (λ l. x ∷ l) (take_push t e m (omega arith))

pub take_whole : (t : List Entry) → take (length t) t ≡ t
take_whole [] = refl
take_whole (x ∷ t) = ap (λ l. x ∷ l) (take_whole t)

-- prefix order goes on with an entry whose parent is on the way
pub order_push : (t : List Entry) (e : Entry) → AreInPrefixOrder t → MayPush t e.up → AreInPrefixOrder (t ++ e ∷ [])
order_push t e order may i h = by_case (cases_lt i (length t))
  where
    by_case : (i < length t) ⊎ (length t ≤ i) → MayPush (take i (t ++ e ∷ [])) (up_of (t ++ e ∷ []) i)
    by_case (inl l) =
        subst (λ u. MayPush (take i (t ++ e ∷ [])) u) (sym (up_push t e i l))
        (subst (λ s. MayPush s (up_of t i)) (sym (take_push t e i (omega arith))) (order i l))
    by_case (inr l) =
        let is : length t ≡ i = omega (arith, length_push t e) in
        subst (λ j. MayPush (take j (t ++ e ∷ [])) (up_of (t ++ e ∷ []) j)) is
        (subst (λ u. MayPush (take (length t) (t ++ e ∷ [])) u) (sym (up_last t e))
        (subst (λ s. MayPush s e.up) (sym (take_push t e (length t) (omega arith) ∙ take_whole t)) may))

held_from : (t : List Entry) (i j : ℕ) (u : Option ℕ) → u ≡ Some j → i < length t → MayPush (take (suc i) t) u → OnWay t i j
held_from t i j None e h m = cc
held_from t i j (Some k) e h m =
    let is : k ≡ j = cc in
    let place : length (take (suc i) t) - 1 ≡ i = omega (arith, length-take (suc i) t) in
    subst (λ z. OnWay t i z) is (way_take t (suc i) i k (subst (λ z. OnWay (take (suc i) t) z k) place m.1))

way_back : (t : List Entry) (i k : ℕ) → AreInPrefixOrder t → k ≤ i → suc i < length t → OnWay t (suc i) k → OnWay t i k
way_back t i k order le h w = by_case (way_cases t (suc i) k w)
  where
    by_case : (suc i ≡ k) ⊎ ((j : ℕ) × ((up_of t (suc i) ≡ Some j) × OnWay t j k)) → OnWay t i k
    by_case (inl e) = absurd (omega arith)
    by_case (inr p) = way_then t i p.0 k (held_from t i p.0 (up_of t (suc i)) p.1.0 (omega arith) (order (suc i) h)) p.1.1

-- an entry above the last one is above all entries from it on
way_between : (t : List Entry) (last k : ℕ) → AreInPrefixOrder t → last < length t → OnWay t last k → (d i : ℕ) → i + d ≡ last → k ≤ i → OnWay t i k
way_between t last k order h w zero i e le = subst (λ z. OnWay t z k) (let q : last ≡ i = omega arith in q) w
way_between t last k order h w (suc d) i e le = way_back t i k order le (omega arith) (way_between t last k order h w d (suc i) (omega arith) (omega arith))

-- an entry above the last one, or it, is the last of its parent
pub last_child : (t : List Entry) (last k : ℕ) → AreInPrefixOrder t → last < length t → suc last ≡ length t → OnWay t last k → (i : ℕ) → k < i → i < length t → up_of t i ≡ up_of t k → ⊥
last_child t last k order h is w i gt lt e = by_case (way_cases t i k (way_between t last k order h w (last - i) i (omega arith) (omega arith)))
  where
    by_case : (i ≡ k) ⊎ ((j : ℕ) × ((up_of t i ≡ Some j) × OnWay t j k)) → ⊥
    by_case (inl q) = omega arith
    by_case (inr p) =
        let a = way_le t p.0 k (earlier t order) p.1.1 in
        let b = earlier t order k p.0 (sym e ∙ p.1.0) in
        omega arith

pub last_is : (t : List Entry) (last : ℕ) → suc last ≡ length t → last_of t ≡ Some last
last_is [] last e = absurd (omega arith)
last_is (x ∷ t) last e = ap (λ n. Some n) (let q : length t ≡ last = omega arith in q)

-- what is left of a walk up
abbrev pub steps_left : Option ℕ → ℕ
steps_left None = 0
steps_left (Some k) = k + 1

-- the walk has come to an entry on the way from the last one, and if the parent is on that way, it is still to come
pub record AreReached (t : List Entry) (u : ℕ) (at : Option ℕ) : Type 0 where
  pub within : (k : ℕ) → at ≡ Some k → k < length t
  pub way : (k : ℕ) → at ≡ Some k → OnWay t (length t - 1) k
  pub still : MayPush t (Some u) → (k : ℕ) × ((at ≡ Some k) × OnWay t k u)

pub reached_last : (t : List Entry) (u n : ℕ) (at : Option ℕ) → n ≡ length t → SomeIff at (1 ≤ n) (n - 1) → AreReached t u at
reached_last t u n None size h = record {
  within = λ k e. cc;
  way = λ k e. cc;
  still = λ m. absurd (h (let l = m.0 in omega arith));
}
reached_last t u n (Some last) size h = record {
  within = λ k e. let is : last ≡ k = cc in let a = h.0 in let b = h.1 in omega arith;
  way = λ k e. let is : last ≡ k = cc in let b = h.1 in subst (OnWay t (length t - 1)) (let q : length t - 1 ≡ k = omega arith in q) here;
  still = λ m. (last, (refl, subst (λ z. OnWay t z u) (let b = h.1 in let q : length t - 1 ≡ last = omega arith in q) m.1));
}

-- one step up
pub reached_up : (t : List Entry) (u k : ℕ) → AreEarlier t → AreReached t u (Some k) → (k ≡ u → ⊥) → AreReached t u (up_of t k)
reached_up t u k h r other = record {
  within = λ j e. let l = h k j e in let w = r.within k refl in omega arith;
  way = λ j e. way_then t (length t - 1) k j (r.way k refl) (above j e here);
  still = λ m. step (r.still m);
}
  where
    step : (n : ℕ) × ((Some k ≡ Some n) × OnWay t n u) → (n : ℕ) × ((up_of t k ≡ Some n) × OnWay t n u)
    step p =
        let is : p.0 ≡ k = (let q = p.1.0 in cc) in
        by_case (way_cases t k u (subst (λ z. OnWay t z u) is p.1.1))
      where
        by_case : (k ≡ u) ⊎ ((j : ℕ) × ((up_of t k ≡ Some j) × OnWay t j u)) → (n : ℕ) × ((up_of t k ≡ Some n) × OnWay t n u)
        by_case (inl q) = absurd (other q)
        by_case (inr q) = q

pub fewer_steps : (t : List Entry) (k : ℕ) (u : Option ℕ) → AreEarlier t → u ≡ up_of t k → steps_left u < steps_left (Some k)
fewer_steps t k None h e = omega arith
fewer_steps t k (Some j) h e = let l = h k j (sym e) in omega arith
