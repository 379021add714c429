-- Heights by rounds are lengths of chains.
use Rattle.std.proofs.Common.{Option, Some, None, ◌≡◌, ℕ, zero, suc, ◌+◌, ◌<◌, ◌≤◌, inl, inr, min, max, List, [], ◌∷◌, ◌++◌, length, map, get_or, add-one, refl, sym, ap, subst, ◌∙◌, arith}
use Rattle.std.specs.List.{Contains, HoldsAt}
use Rattle.std.proofs.lemmas.List.{get_or-map, get_or_past, length-map}
use Rattle.std.proofs.lemmas.List.Elements.{at_read}
use Rattle.std.proofs.lemmas.Bool.{cases_lt}
use Rattle.layout_set.specs.declared.set.Variant.{Variant}
use Rattle.layout_set.specs.declared.set.TypeRef.{TypeRef}
use Rattle.layout_set.specs.declared.set.TypeRef.TheVariants.{Prim, User}
use Rattle.layout_set.specs.declared.set.TypeDef.{TypeDef}
use Rattle.layout_set.specs.declared.set.TypeDef.TheVariants.{FnPtr}
use Rattle.layout_set.specs.Found.{IsFirst}
use Rattle.layout_set.specs.Law2.{IsChain, IsShallow}
use Rattle.layout_set.specs.References.{field_types, variant_types, contents}
use Rattle.layout_type_laws.specs.Heights.{greatest, height_at, step, heights}

max_thrice : (a b c d : ℕ) → d ≡ max b c → max a d ≡ max (max a b) c
max_thrice a b c d e = omega (arith, e)

greatest_append : {X : Type 0} (h : X → ℕ) (xs ys : List X) → greatest (map h (xs ++ ys)) ≡ max (greatest (map h xs)) (greatest (map h ys))
greatest_append h [] ys = omega arith
greatest_append h (x ∷ xs) ys = max_thrice (h x) (greatest (map h xs)) (greatest (map h ys)) (greatest (map h (xs ++ ys))) (greatest_append h xs ys)

pub greatest_more : (h : TypeRef → ℕ) (most : ℕ) (v : Variant) (vs : List Variant) → max (max most (greatest (map h (field_types v.fields)))) (greatest (map h (variant_types vs))) ≡ max most (greatest (map h (variant_types (v ∷ vs))))
greatest_more h most v vs = sym (max_thrice most (greatest (map h (field_types v.fields))) (greatest (map h (variant_types vs))) (greatest (map h (variant_types (v ∷ vs)))) (greatest_append h (field_types v.fields) (variant_types vs)))

pub heights_next : (types : List TypeDef) (k : ℕ) → heights types (k + 1) ≡ map (step (heights types k)) types
unfolding heights
heights_next types k = ap (heights types) (add-one k)

-- A round that changes nothing is the last that changes anything.
pub settled : (types : List TypeDef) (k : ℕ) → map (step (heights types k)) types ≡ heights types k → (n : ℕ) → k ≤ n → heights types n ≡ heights types k
unfolding heights
settled types k e zero h = ap (heights types) (let z : zero ≡ k = omega (arith, h) in z)
settled types k e (suc n) h = elim (cases_lt k (suc n)) as (λ _. heights types (suc n) ≡ heights types k) [
  | inl l ↦ ap (λ t. map (step t) types) (settled types k e n (omega (arith, l))) ∙ e
  | inr g ↦ ap (heights types) (let z : suc n ≡ k = omega (arith, h, g) in z)
]

member_at : {X : Type 0} (h : X → ℕ) (xs : List X) (k : ℕ) (x : X) → k < length xs → get_or xs k x ≡ x → h x ≤ greatest (map h xs)
member_at h [] k x l e = elim (let f : ⊥ = omega (arith, l) in f) [ ]
member_at h (y ∷ ys) zero x l e = subst (λ z. h z ≤ max (h y) (greatest (map h ys))) e (omega arith)
member_at h (y ∷ ys) (suc k) x l e = let r : h x ≤ greatest (map h ys) = member_at h ys k x (omega (arith, l)) e in omega (arith, r)

member_below : {X : Type 0} (h : X → ℕ) (xs : List X) (x : X) → Contains xs x → h x ≤ greatest (map h xs)
member_below h xs x c = member_at h xs c.0 x c.1 c.2

-- an element that has the greatest number
abbrev pub Attains : {X : Type 0} → (X → ℕ) → List X → Type 0
Attains {X} h xs = (y : X) × (Contains xs y × (h y ≡ greatest (map h xs)))

attained : {X : Type 0} (h : X → ℕ) (xs : List X) → 0 < greatest (map h xs) → Attains h xs
attained h [] p = elim (let f : ⊥ = omega (arith, p) in f) [ ]
attained h (x ∷ xs) p = elim (cases_lt (h x) (greatest (map h xs))) as (λ _. Attains h (x ∷ xs)) [
  | inl l ↦ let r = attained h xs (omega (arith, l)) in (r.0, ((suc r.1.0.0, (let z : suc r.1.0.0 < suc (length xs) = omega (arith, r.1.0.1) in z), r.1.0.2), let e : h r.0 ≡ greatest (map h xs) = r.1.1 in omega (arith, e, l)))
  | inr g ↦ (x, ((zero, (let z : zero < suc (length xs) = omega arith in z), refl), omega (arith, g)))
]

height_next : (types : List TypeDef) (k i : ℕ) (d : TypeDef) → i < length types → get_or (heights types (suc k)) i 0 ≡ step (heights types k) (get_or types i d)
unfolding heights
height_next types k i d h = get_or-map (step (heights types k)) types i d 0 h

height_outside : (types : List TypeDef) (k i : ℕ) → length types ≤ i → get_or (heights types k) i 0 ≡ 0
unfolding heights
height_outside types zero i h = get_or_past (map (λ _. 0) types) i 0 (subst (λ n. n ≤ i) (sym (length-map types (λ _. 0))) h)
height_outside types (suc k) i h = get_or_past (map (step (heights types k)) types) i 0 (subst (λ n. n ≤ i) (sym (length-map types (step (heights types k)))) h)

height_zero : (types : List TypeDef) (i : ℕ) → get_or (heights types zero) i 0 ≡ 0
unfolding heights
height_zero types i = elim (cases_lt i (length types)) as (λ _. get_or (heights types zero) i 0 ≡ 0) [
  | inl l ↦ get_or-map (λ _. 0) types i (FnPtr) 0 l
  | inr g ↦ get_or_past (map (λ _. 0) types) i 0 (subst (λ n. n ≤ i) (sym (length-map types (λ _. 0))) g)
]

-- a chain is no longer than its height, up to the rounds
chain_height : (types : List TypeDef) (rest : List ℕ) (i k : ℕ) → k ≤ 257 → IsChain types (i ∷ rest) → min k (length (i ∷ rest)) ≤ get_or (heights types k) i 0
chain_height types rest i zero le c = omega arith
chain_height types [] i (suc k) le c =
    let e = height_next types k i (FnPtr) c.0 in
    let one : suc (length {A = ℕ} []) ≡ 1 = refl in
    omega (arith, e, one)
chain_height types (j ∷ rest) i (suc k) le c =
    let d = FnPtr in
    let e = height_next types k i d c.0 in
    let more : min k (length (j ∷ rest)) ≤ get_or (heights types k) j 0 = chain_height types rest j k (omega (arith, le)) c.1.1 in
    let below : get_or (heights types k) j 0 ≤ greatest (map (height_at (heights types k)) (contents (get_or types i d))) = member_below (height_at (heights types k)) (contents (get_or types i d)) (User j) (c.1.0 d) in
    by_parts k (length (j ∷ rest)) (get_or (heights types k) j 0) (greatest (map (height_at (heights types k)) (contents (get_or types i d)))) (get_or (heights types (suc k)) i 0) le more below e
  where
    by_parts : (k n h g r : ℕ) → suc k ≤ 257 → min k n ≤ h → h ≤ g → r ≡ min 257 (1 + g) → min (suc k) (suc n) ≤ r
    by_parts k n h g r a b c e = omega (arith, a, b, c, e)

-- a chain as long as the height
abbrev pub Chained : List TypeDef → ℕ → ℕ → Type 0
Chained types i n = (rest : List ℕ) × (IsChain types (i ∷ rest) × (n ≤ length (i ∷ rest)))

by_target : (types : List TypeDef) (k i : ℕ) (d : TypeDef) → ((j : ℕ) → 0 < get_or (heights types k) j 0 → Chained types j (get_or (heights types k) j 0)) → (g : ℕ) → 0 < g → (y : TypeRef) → Contains (contents (get_or types i d)) y → height_at (heights types k) y ≡ g → (j : ℕ) × (Contains (contents (get_or types i d)) (User j) × Chained types j g)
by_target types k i d more g p (Prim prim) c e = elim (let f : ⊥ = omega (arith, p, e) in f) [ ]
by_target types k i d more g p (User j) c e = (j, (c, subst (Chained types j) e (more j (omega (arith, p, e)))))

get_or_any : {X : Type 0} (xs : List X) (i : ℕ) (d e : X) → i < length xs → get_or xs i d ≡ get_or xs i e
get_or_any [] i d e h = elim (let f : ⊥ = omega (arith, h) in f) [ ]
get_or_any (x ∷ xs) zero d e h = refl
get_or_any (x ∷ xs) (suc i) d e h = get_or_any xs i d e (omega (arith, h))

longer : (types : List TypeDef) (i g r : ℕ) (d : TypeDef) → i < length types → r ≡ min 257 (1 + g) → (0 < g → (j : ℕ) × (Contains (contents (get_or types i d)) (User j) × Chained types j g)) → Chained types i r
longer types i zero r d h e more = ([], ((h, (tt, tt)), omega (arith, e)))
longer types i (suc g) r d h e more =
    let m = more (let z : 0 < suc g = omega arith in z) in
    let at : HoldsAt (λ t. Contains (contents t) (User m.0)) types i = at_read types (λ t. Contains (contents t) (User m.0)) i (get_or types i d) h (get_or_any types i d (get_or types i d) h) m.1.0 in
    (m.0 ∷ m.1.1.0, ((h, (at, m.1.1.1.0)), let b : suc g ≤ length (m.0 ∷ m.1.1.0) = m.1.1.1.1 in omega (arith, e, b)))

high_chain : (types : List TypeDef) (k i : ℕ) → 0 < get_or (heights types k) i 0 → Chained types i (get_or (heights types k) i 0)
high_chain types zero i p = elim (let f : ⊥ = omega (arith, p, height_zero types i) in f) [ ]
high_chain types (suc k) i p = elim (cases_lt i (length types)) as (λ _. Chained types i (get_or (heights types (suc k)) i 0)) [
  | inl l ↦
      let d = FnPtr in
      longer types i (greatest (map (height_at (heights types k)) (contents (get_or types i d)))) (get_or (heights types (suc k)) i 0) d l (height_next types k i d l)
      (λ q. let a = attained (height_at (heights types k)) (contents (get_or types i d)) q in by_target types k i d (high_chain types k) (greatest (map (height_at (heights types k)) (contents (get_or types i d)))) q a.0 a.1.0 a.1.1)
  | inr g ↦ elim (let f : ⊥ = omega (arith, p, height_outside types (suc k) i g) in f) [ ]
]

pub low_is_shallow : (types : List TypeDef) (i : ℕ) → get_or (heights types 257) i 0 < 257 → IsShallow types i
unfolding IsShallow
low_is_shallow types i h rest c = let m = chain_height types rest i 257 (omega arith) c in omega (arith, h, m)

pub high_is_deep : (types : List TypeDef) (i : ℕ) → 257 ≤ get_or (heights types 257) i 0 → IsShallow types i → ⊥
unfolding IsShallow
high_is_deep types i h low = let c = high_chain types 257 i (omega (arith, h)) in let n = low c.0 c.1.0 in let m = c.1.1 in omega (arith, h, n, m)

pub heights_long : (types : List TypeDef) (k : ℕ) → length (heights types k) ≡ length types
unfolding heights
heights_long types zero = length-map types (λ _. 0)
heights_long types (suc k) = length-map types (step (heights types k))

pub first_by_height : (types : List TypeDef) (hs : List ℕ) (r : Option ℕ) → hs ≡ heights types 257 → IsFirst (λ i. get_or hs i 0 < 257) (length hs) r → IsFirst (IsShallow types) (length types) r
first_by_height types hs None e f = λ i h. low_is_shallow types i (subst (λ l. get_or l i 0 < 257) e (f i (subst (λ n. i < n) (sym (ap length e ∙ heights_long types 257)) h)))
first_by_height types hs (Some i) e f = (
  subst (λ n. i < n) (ap length e ∙ heights_long types 257) f.0,
  (
    (λ s. elim (cases_lt (get_or hs i 0) 257) as (λ _. ⊥) [
      | inl l ↦ f.1.0 l
      | inr g ↦ high_is_deep types i (subst (λ l. 257 ≤ get_or l i 0) e g) s
    ]),
    λ j h. low_is_shallow types j (subst (λ l. get_or l j 0 < 257) e (f.1.1 j h)),
  ),
)
