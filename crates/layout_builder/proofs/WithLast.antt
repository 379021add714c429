-- A list whose last item is changed.
use Rattle.std.proofs.Common.{
  ◌≡◌,
  ◌∙◌,
  sym,
  ap,
  refl,
  ℕ,
  suc,
  ◌-◌,
  ◌+◌,
  length,
  arith,
  List,
  [],
  ◌∷◌,
  ◌++◌,
  append_assoc,
  Some,
  Result,
  OnOk,
  slice_set,
  slice_index_or,
}
use Rattle.std.proofs.lemmas.List.{append-nil}
use Rattle.std.proofs.lemmas.Option.{same_Some}
use Rattle.std.proofs.lemmas.List.Sums.{sum_by-cons}
use Rattle.std.proofs.lemmas.Result.{on_ok_weaker}
use Rattle.std.specs.List.{flat_map, sum_by}
use Rattle.layout_lines.specs.Sets.{last_of}
use Rattle.layout_builder.specs.Additions.{with_last}

pub with_last_end : {A : Type 0} (f : A → A) (xs : List A) (x : A) → with_last f (xs ++ x ∷ []) ≡ xs ++ f x ∷ []
with_last_end f [] x = refl
with_last_end f (y ∷ []) x = refl
with_last_end f (y ∷ z ∷ xs) x = ap (λ l. y ∷ l) (with_last_end f (z ∷ xs) x)

-- the last item is written over with what it is changed to
pub with_last_set : {A : Type 0} (f : A → A) (xs : List A) (x : A) → x ≡ slice_index_or xs (length xs - 1) x
    → slice_set xs (length xs - 1) (f x) ≡ with_last f xs
with_last_set f [] x e = refl
with_last_set f (y ∷ []) x e = ap (λ a. f a ∷ []) e
with_last_set f (y ∷ z ∷ ys) x e =
    let a : suc (length ys) - 1 ≡ length ys = omega arith in
    let b : suc (suc (length ys)) - 1 ≡ suc (length ys) = omega arith in
    ap (λ k. slice_set (y ∷ z ∷ ys) k (f x)) b
    ∙ ap (λ k. y ∷ slice_set (z ∷ ys) k (f x)) (sym a)
    ∙ ap (λ l. y ∷ l)
    (with_last_set f (z ∷ ys) x (e ∙ ap (λ k. slice_index_or (y ∷ z ∷ ys) k x) b ∙ ap (λ k. slice_index_or (z ∷ ys) k x) (sym a)))

-- the same where only a part of it is written, by a call that may have failed
pub last_part_written : {A B C E : Type 0} (r : Result C E) (f : A → A) (xs : List A) (x : A) (new wanted : B) (whole : B → A)
    → x ≡ slice_index_or xs (length xs - 1) x → whole wanted ≡ f x → OnOk r (new ≡ wanted)
    → OnOk r (slice_set xs (length xs - 1) (whole new) ≡ with_last f xs)
last_part_written r f xs x new wanted whole e same h =
    on_ok_weaker r (λ p. ap (λ b. slice_set xs (length xs - 1) (whole b)) p ∙ ap (slice_set xs (length xs - 1)) same ∙ with_last_set f xs x e) h

pub length_with_last : {A : Type 0} (f : A → A) (xs : List A) → length (with_last f xs) ≡ length xs
length_with_last f [] = refl
length_with_last f (x ∷ []) = refl
length_with_last f (x ∷ y ∷ xs) = ap (λ n. suc n) (length_with_last f (y ∷ xs))

-- what the last item comes to with some lines more, the list comes to
pub flat_map_last : {A B : Type 0} (L : A → List B) (f : A → A) (more : List B) (xs : List A) (x : A) → last_of xs ≡ Some x → L (f x) ≡ L x ++ more
    → flat_map L (with_last f xs) ≡ flat_map L xs ++ more
flat_map_last L f more [] x e h = absurd (cc)
flat_map_last L f more (y ∷ []) x e h =
    let same : y ≡ x = same_Some y x e in
    append-nil (L (f y)) ∙ ap (λ a. L (f a)) same ∙ h ∙ ap (λ a. L a ++ more) (sym same) ∙ ap (λ ls. ls ++ more) (sym (append-nil (L y)))
flat_map_last L f more (y ∷ z ∷ xs) x e h =
    ap (λ ls. L y ++ ls) (flat_map_last L f more (z ∷ xs) x e h) ∙ sym (append_assoc (L y) (flat_map L (z ∷ xs)) more)

pub regroup : (a b c : ℕ) → a + (b + c) ≡ (a + b) + c
regroup a b c = omega arith

pub sum_last : {A : Type 0} (n : A → ℕ) (f : A → A) (k : ℕ) (xs : List A) (x : A) → last_of xs ≡ Some x → n (f x) ≡ n x + k
    → sum_by n (with_last f xs) ≡ sum_by n xs + k
sum_last n f k [] x e h = absurd (cc)
sum_last n f k (y ∷ []) x e h =
    let same : y ≡ x = same_Some y x e in
    let one : n (f y) ≡ n y + k = ap (λ a. n (f a)) same ∙ h ∙ ap (λ a. n a + k) (sym same) in
    let a = sum_by-cons n (f y) [] in
    let b = sum_by-cons n y [] in
    omega (arith, a, b, one)
sum_last n f k (y ∷ z ∷ xs) x e h =
    sum_by-cons n y (with_last f (z ∷ xs))
    ∙ ap (λ m. n y + m) (sum_last n f k (z ∷ xs) x e h)
    ∙ regroup (n y) (sum_by n (z ∷ xs)) k
    ∙ ap (λ m. m + k) (sym (sum_by-cons n y (z ∷ xs)))
