-- Texts that no two of a list share.
use Rattle.std.proofs.Common.{◌≡◌, ◌≢◌, ℕ, zero, suc, ◌<◌, List, [], ◌∷◌, length, take, map, get_or, Bool, true, false, not, ◌||◌, Option, Some, None, refl, sym, ap, subst, ◌∙◌, arith}
use Rattle.std.specs.Bool.{Decides}
use Rattle.std.specs.Str.{bytes_eq}
use Rattle.std.specs.List.{filter_map, cons_option, list_any}
use Rattle.std.proofs.lemmas.Slice.Eq.{bytes_eq-Decides}
use Rattle.std.proofs.lemmas.List.Elements.{at_read}
use Rattle.layout_name_laws.specs.RustTexts.{TextsApart, IsNewText, is_new}

pub list_any_map : {A B : Type 0} (p : B → Bool) (f : A → B) (xs : List A) → list_any p (map f xs) ≡ list_any (λ x. p (f x)) xs
list_any_map p f [] = refl
list_any_map p f (x ∷ xs) = ap (λ b. p (f x) || b) (list_any_map p f xs)

clash : {A : Type 0} → false ≡ true → A
clash e = elim (let f : ⊥ = grind (arith, e) in f) [ ]

below_none : {A : Type 0} (j : ℕ) → j < zero → A
below_none j h = elim (let f : ⊥ = omega (arith, h) in f) [ ]

left_fails : (a b : Bool) → (a || b) ≡ false → a ≡ false
left_fails false b e = refl
left_fails true b e = e

right_fails : (a b : Bool) → (a || b) ≡ false → b ≡ false
right_fails false b e = e
right_fails true b e = clash (sym e)

others_fail : {Y : Type 0} (p : Y → Bool) (o : Option Y) (ys : List Y) → list_any p (cons_option o ys) ≡ false → list_any p ys ≡ false
others_fail p None ys e = e
others_fail p (Some y) ys e = right_fails (p y) (list_any p ys) e

-- Each of the first i gives nothing that passes.
pub none_passes : {X Y : Type 0} (p : Y → Bool) (h : X → Option Y) (xs : List X) (i j : ℕ) (d : X) (y : Y) → list_any p (filter_map h (take i xs)) ≡ false → j < i → j < length xs → h (get_or xs j d) ≡ Some y → p y ≡ false
none_passes p h [] i j d y e a b w = below_none j b
none_passes p h (x ∷ xs) zero j d y e a b w = below_none j a
none_passes p h (x ∷ xs) (suc i) zero d y e a b w = left_fails (p y) (list_any p (filter_map h (take i xs))) (subst (λ o. list_any p (cons_option o (filter_map h (take i xs))) ≡ false) w e)
none_passes p h (x ∷ xs) (suc i) (suc j) d y e a b w = none_passes p h xs i j d y (others_fail p (h x) (filter_map h (take i xs)) e) (omega (arith, a)) (omega (arith, b)) w

-- One of the first i gives something that passes.
pub record Passing {X Y : Type 0} (p : Y → Bool) (h : X → Option Y) (xs : List X) (i : ℕ) : Type 0 where
  pub place : ℕ
  pub value : Y
  pub below : place < i
  pub gives : (d : X) → h (get_or xs place d) ≡ Some value
  pub passes : p value ≡ true

later : {X Y : Type 0} (p : Y → Bool) (h : X → Option Y) (x : X) (xs : List X) (i : ℕ) → Passing p h xs i → Passing p h (x ∷ xs) (suc i)
later p h x xs i r = record { place = suc r.place; value = r.value; below = omega (arith, r.below); gives = r.gives; passes = r.passes }

at_first : {X Y : Type 0} (p : Y → Bool) (h : X → Option Y) (x : X) (xs : List X) (i : ℕ) (ys : List Y) → (list_any p ys ≡ true → Passing p h xs i) → (y : Y) → h x ≡ Some y → (b : Bool) → p y ≡ b → (b || list_any p ys) ≡ true → Passing p h (x ∷ xs) (suc i)
at_first p h x xs i ys more y w true t e = record { place = zero; value = y; below = omega arith; gives = λ d. w; passes = t }
at_first p h x xs i ys more y w false t e = later p h x xs i (more e)

at_either : {X Y : Type 0} (p : Y → Bool) (h : X → Option Y) (x : X) (xs : List X) (i : ℕ) (ys : List Y) → (list_any p ys ≡ true → Passing p h xs i) → (o : Option Y) → h x ≡ o → list_any p (cons_option o ys) ≡ true → Passing p h (x ∷ xs) (suc i)
at_either p h x xs i ys more None w e = later p h x xs i (more e)
at_either p h x xs i ys more (Some y) w e = at_first p h x xs i ys more y w (p y) refl e

pub one_passes : {X Y : Type 0} (p : Y → Bool) (h : X → Option Y) (xs : List X) (i : ℕ) → list_any p (filter_map h (take i xs)) ≡ true → Passing p h xs i
one_passes p h [] zero e = clash e
one_passes p h [] (suc i) e = clash e
one_passes p h (x ∷ xs) zero e = clash e
one_passes p h (x ∷ xs) (suc i) e = at_either p h x xs i (filter_map h (take i xs)) (one_passes p h xs i) (h x) refl e

abbrev pub itself : Option (List ℕ) → Option (List ℕ)
itself o = o

none_apart : (o : Option (List ℕ)) → TextsApart o None
none_apart None = tt
none_apart (Some a) = tt

differ_by_test : (a y : List ℕ) → bytes_eq a y ≡ false → y ≢ a
differ_by_test a y e w = clash (sym e ∙ (bytes_eq-Decides a y).1 (sym w))

apart_by_test : (a : List ℕ) (o : Option (List ℕ)) → ((y : List ℕ) → o ≡ Some y → bytes_eq a y ≡ false) → TextsApart o (Some a)
apart_by_test a None w = tt
apart_by_test a (Some y) w = differ_by_test a y (w y refl)

decides : (texts : List (Option (List ℕ))) (i : ℕ) (t : Option (List ℕ)) → i < length texts → t ≡ get_or texts i t → (o : Option (List ℕ)) → itself t ≡ o → Decides (is_new (filter_map itself (take i texts)) o) (IsNewText texts i)
unfolding IsNewText
decides texts i t h is None w =
    let at : (d : Option (List ℕ)) → itself (get_or texts i d) ≡ None = at_read texts (λ z. itself z ≡ None) i t h is w in
    ((λ _ j a b k. subst (TextsApart (itself (get_or texts j a))) (sym (at b)) (none_apart (itself (get_or texts j a)))), λ _. refl)
decides texts i t h is (Some n) w =
    let at : (d : Option (List ℕ)) → itself (get_or texts i d) ≡ Some n = at_read texts (λ z. itself z ≡ Some n) i t h is w in
    by_test at (list_any (bytes_eq n) (filter_map itself (take i texts))) refl
  where
    by_test : ((d : Option (List ℕ)) → itself (get_or texts i d) ≡ Some n) → (r : Bool) → list_any (bytes_eq n) (filter_map itself (take i texts)) ≡ r → Decides (not r) (IsNewText texts i)
    by_test at false e =
        ((λ _ j a b k. subst (TextsApart (itself (get_or texts j a))) (sym (at b)) (apart_by_test n (itself (get_or texts j a)) (λ y v. none_passes (bytes_eq n) itself texts i j a y e k (omega (arith, h, k)) v))), λ _. refl)
    by_test at true e =
        let r = one_passes (bytes_eq n) itself texts i e in
        ((λ f. clash f), λ new. elim (let ne : r.value ≢ n = subst (λ o. TextsApart o (Some n)) (r.gives t) (subst (TextsApart (itself (get_or texts r.place t))) (at t) (new r.place t t r.below)) in ne (sym ((bytes_eq-Decides n r.value).0 r.passes))) [ ])

-- Whether a text is new is what the look-up among the earlier texts says.
pub new_decides : (texts : List (Option (List ℕ))) (i : ℕ) (t : Option (List ℕ)) → i < length texts → t ≡ get_or texts i t → Decides (is_new (filter_map itself (take i texts)) (itself t)) (IsNewText texts i)
new_decides texts i t h is = decides texts i t h is (itself t) refl
