-- Searches among entries.
use Rattle.std.proofs.Common.{◌≡◌, ℕ, zero, suc, ◌+◌, ◌-◌, ◌<◌, ◌≤◌, Bool, true, false, if◌then◌else◌, List, [], ◌∷◌, ◌++◌, length, drop, map, slice_get, Option, Some, None, refl, sym, ap, subst, ◌∙◌, arith, nat_eq, add-zero, eq-eqb}
use Rattle.std.specs.Option.{option_eq}
use Rattle.std.specs.List.{position_from}
use Rattle.std.proofs.lemmas.Bool.{eqb-true}
use Rattle.entry_tree.specs.Entries.{Entry}
use Rattle.entry_tree.specs.Links.{places_from}

pub eq_true : (a b : Option ℕ) → option_eq nat_eq a b ≡ true → a ≡ b
eq_true None None e = refl
eq_true (Some a) (Some b) e = ap (λ x. Some x) (eqb-true a b e)
eq_true None (Some b) e = cc
eq_true (Some a) None e = cc

pub eq_self : (a : Option ℕ) → option_eq nat_eq a a ≡ true
eq_self None = refl
eq_self (Some a) = eq-eqb a a refl

pub eq_false : (a b : Option ℕ) → option_eq nat_eq a b ≡ false → a ≡ b → ⊥
eq_false a b e h = let q : true ≡ false = sym (eq_self a) ∙ ap (option_eq nat_eq a) h ∙ e in cc

pub eq_not : (a b : Option ℕ) → (a ≡ b → ⊥) → option_eq nat_eq a b ≡ false
eq_not a b h = each (option_eq nat_eq a b) refl
  where
    each : (t : Bool) → option_eq nat_eq a b ≡ t → option_eq nat_eq a b ≡ false
    each true e = absurd (h (eq_true a b e))
    each false e = e

pub get_map : {A B : Type 0} (f : A → B) (xs : List A) (i : ℕ) (x : A) → slice_get xs i ≡ Some x → slice_get (map f xs) i ≡ Some (f x)
get_map f [] i x e = cc
get_map f (y ∷ xs) zero x e = let is : y ≡ x = cc in ap (λ z. Some (f z)) is
get_map f (y ∷ xs) (suc i) x e = get_map f xs i x e

pub length_of_map : {A B : Type 0} (f : A → B) (xs : List A) → length (map f xs) ≡ length xs
length_of_map f [] = refl
length_of_map f (x ∷ xs) = ap suc (length_of_map f xs)

pub within : {A : Type 0} (xs : List A) (i : ℕ) (x : A) → slice_get xs i ≡ Some x → i < length xs
within [] i x e = cc
within (y ∷ xs) zero x e = omega arith
within (y ∷ xs) (suc i) x e = let h = within xs i x e in omega arith

pub some_at : {A : Type 0} (xs : List A) (i : ℕ) → i < length xs → (x : A) × (slice_get xs i ≡ Some x)
some_at [] i h = absurd (omega arith)
some_at (x ∷ xs) zero h = (x, refl)
some_at (x ∷ xs) (suc i) h = some_at xs i (omega arith)

pub none_past : {A : Type 0} (xs : List A) (i : ℕ) → length xs ≤ i → slice_get xs i ≡ None
none_past [] i h = refl
none_past (x ∷ xs) zero h = absurd (omega arith)
none_past (x ∷ xs) (suc i) h = none_past xs i (omega arith)

pub get_drop : {A : Type 0} (xs : List A) (m j : ℕ) → slice_get (drop m xs) j ≡ slice_get xs (m + j)
get_drop xs zero j = ap (slice_get xs) (let e : j ≡ 0 + j = omega arith in e)
get_drop [] (suc m) j = refl
get_drop (x ∷ xs) (suc m) j = get_drop xs m j ∙ ap (slice_get (x ∷ xs)) (let e : suc (m + j) ≡ suc m + j = omega arith in e)

pub drop_push : {A : Type 0} (xs : List A) (m : ℕ) (x : A) → m ≤ length xs → drop m (xs ++ x ∷ []) ≡ drop m xs ++ x ∷ []
drop_push xs zero x h = refl
drop_push [] (suc m) x h = absurd (omega arith)
drop_push (y ∷ xs) (suc m) x h = drop_push xs m x (omega arith)

pub get_push : {A : Type 0} (xs : List A) (x : A) (i : ℕ) → i < length xs → slice_get (xs ++ x ∷ []) i ≡ slice_get xs i
get_push [] x i h = absurd (omega arith)
get_push (y ∷ xs) x zero h = refl
get_push (y ∷ xs) x (suc i) h = get_push xs x i (omega arith)

pub get_last : {A : Type 0} (xs : List A) (x : A) → slice_get (xs ++ x ∷ []) (length xs) ≡ Some x
get_last [] x = refl
get_last (y ∷ xs) x = get_last xs x

abbrev pub or_else : Option ℕ → Option ℕ → Option ℕ
or_else (Some a) o = Some a
or_else None o = o

abbrev pub added : Bool → ℕ → Option ℕ
added t n = if t then Some n else None

pub or_none : (o : Option ℕ) → or_else o None ≡ o
or_none (Some a) = refl
or_none None = refl

pub or_there : (o p : Option ℕ) → (o ≡ None → ⊥) → or_else o p ≡ o
or_there (Some a) p h = refl
or_there None p h = absurd (h refl)

push_if : (t : Bool) (k : ℕ) (p q a b : Option ℕ) → a ≡ b → p ≡ or_else q a → (if t then Some k else p) ≡ or_else (if t then Some k else q) b
push_if true k p q a b e h = refl
push_if false k p q a b e h = h ∙ ap (or_else q) e

-- a search over one entry more gives the old answer, or the new entry where there was none
pub find_push : (test : Entry → Bool) (k : ℕ) (t : List Entry) (e : Entry) → position_from test k (t ++ e ∷ []) ≡ or_else (position_from test k t) (added (test e) (k + length t))
find_push test k [] e = ap (λ j. if test e then Some j else None) (sym (add-zero k))
find_push test k (y ∷ t) e =
    push_if (test y) k _ _ _ _ (ap (added (test e)) (let q : k + 1 + length t ≡ k + suc (length t) = omega arith in q)) (find_push test (k + 1) t e)

there_if : (t : Bool) (k : ℕ) (o : Option ℕ) → (if t then Some k else o) ≡ None → (t ≡ false) × (o ≡ None)
there_if true k o e = cc
there_if false k o e = (refl, e)

-- a search that finds nothing passes by no entry that it looks for
pub none_found : (test : Entry → Bool) (k : ℕ) (t : List Entry) (j : ℕ) (e : Entry) → slice_get t j ≡ Some e → position_from test k t ≡ None → test e ≡ false
none_found test k [] j e g h = cc
none_found test k (y ∷ t) zero e g h = let is : y ≡ e = cc in subst (λ z. test z ≡ false) is (there_if (test y) k (position_from test (k + 1) t) h).0
none_found test k (y ∷ t) (suc j) e g h = none_found test (k + 1) t j e g (there_if (test y) k (position_from test (k + 1) t) h).1

pub find_none : (test : Entry → Bool) (k : ℕ) (t : List Entry) → ((j : ℕ) (e : Entry) → slice_get t j ≡ Some e → test e ≡ false) → position_from test k t ≡ None
find_none test k [] h = refl
find_none test k (y ∷ t) h =
    ap (λ b. if b then Some k else position_from test (k + 1) t) (h 0 y refl) ∙ find_none test (k + 1) t (λ j e g. h (suc j) e g)

-- the first that passes
pub find_first : (test : Entry → Bool) (k : ℕ) (t : List Entry) (j : ℕ) (e : Entry) → slice_get t j ≡ Some e → test e ≡ true → ((i : ℕ) (f : Entry) → i < j → slice_get t i ≡ Some f → test f ≡ false) → position_from test k t ≡ Some (k + j)
find_first test k [] j e g h b = cc
find_first test k (y ∷ t) zero e g h b =
    let is : e ≡ y = cc in
    ap (λ b. if b then Some k else position_from test (k + 1) t) (subst (λ z. test z ≡ true) is h) ∙ ap (λ n. Some n) (sym (add-zero k))
find_first test k (y ∷ t) (suc j) e g h b =
    ap (λ b. if b then Some k else position_from test (k + 1) t) (b 0 y (omega arith) refl) ∙
    find_first test (k + 1) t j e g h (λ i f l q. b (suc i) f (omega arith) q) ∙ ap (λ n. Some n) (let q : k + 1 + j ≡ k + suc j = omega arith in q)

-- what a search finds
pub record Found (test : Entry → Bool) (k : ℕ) (t : List Entry) (j : ℕ) : Type 0 where
  pub entry : Entry
  pub behind : k ≤ j
  pub before : j < k + length t
  pub is : slice_get t (j - k) ≡ Some entry
  pub passes : test entry ≡ true

found_if : (test : Entry → Bool) (k : ℕ) (y : Entry) (t : List Entry) (j : ℕ) (b : Bool) → test y ≡ b → (position_from test (k + 1) t ≡ Some j → Found test (k + 1) t j) → (if b then Some k else position_from test (k + 1) t) ≡ Some j → Found test k (y ∷ t) j
found_if test k y t j true e h g =
    let is : k ≡ j = cc in
    record { entry = y; behind = omega arith; before = omega arith; is = ap (slice_get (y ∷ t)) (let q : j - k ≡ 0 = omega arith in q); passes = e }
found_if test k y t j false e h g =
    let f = h g in
    record { entry = f.entry; behind = omega (arith, f.behind); before = omega (arith, f.before); is = ap (slice_get (y ∷ t)) (let q : j - k ≡ suc (j - (k + 1)) = omega (arith, f.behind) in q) ∙ f.is; passes = f.passes }

pub found : (test : Entry → Bool) (k : ℕ) (t : List Entry) (j : ℕ) → position_from test k t ≡ Some j → Found test k t j
found test k [] j e = cc
found test k (y ∷ t) j e = found_if test k y t j (test y) refl (found test (k + 1) t j) e

-- the places from the first on that a search finds
abbrev pub places_at : (Entry → Bool) → ℕ → List Entry → Option ℕ → List ℕ
places_at test k t None = []
places_at test k t (Some j) = j ∷ places_from test (j + 1) (drop (j + 1 - k) t)

first_if : (test : Entry → Bool) (k : ℕ) (y : Entry) (t : List Entry) (b : Bool) → places_from test (k + 1) t ≡ places_at test (k + 1) t (position_from test (k + 1) t) → (if b then k ∷ places_from test (k + 1) t else places_from test (k + 1) t) ≡ places_at test k (y ∷ t) (if b then Some k else position_from test (k + 1) t)
first_if test k y t true h = ap (λ n. k ∷ places_from test (k + 1) (drop n (y ∷ t))) (let q : suc zero ≡ k + 1 - k = omega arith in q)
first_if test k y t false h = h ∙ moved (position_from test (k + 1) t) (λ j e. (found test (k + 1) t j e).behind)
  where
    moved : (o : Option ℕ) → ((j : ℕ) → o ≡ Some j → k + 1 ≤ j) → places_at test (k + 1) t o ≡ places_at test k (y ∷ t) o
    moved None g = refl
    moved (Some j) g =
        let l = g j refl in
        ap (λ n. j ∷ places_from test (j + 1) (drop n (y ∷ t))) (let q : suc (j + 1 - (k + 1)) ≡ j + 1 - k = omega arith in q)

-- the places are the first one, and those after it
pub places_first : (test : Entry → Bool) (k : ℕ) (t : List Entry) → places_from test k t ≡ places_at test k t (position_from test k t)
places_first test k [] = refl
places_first test k (y ∷ t) = first_if test k y t (test y) (places_first test (k + 1) t)
