-- The last item of a list.
use Rattle.std.proofs.Common.{◌≡◌, ◌∙◌, sym, ap, refl, ℕ, suc, ◌-◌, ◌+◌, length, slice_get, arith, List, [], ◌∷◌, ◌++◌, append_assoc, Some, false}
use Rattle.std.proofs.lemmas.List.{append-nil}
use Rattle.std.proofs.lemmas.Option.{same_Some}
use Rattle.std.proofs.lemmas.List.Sums.{sum_by-cons}
use Rattle.std.specs.List.{flat_map, sum_by}
use Rattle.layout_lines.specs.Sets.{last_of, is_empty}

pub last_of_end : {A : Type 0} (xs : List A) (x : A) → last_of (xs ++ x ∷ []) ≡ Some x
last_of_end [] x = refl
last_of_end (y ∷ []) x = refl
last_of_end (y ∷ z ∷ xs) x = last_of_end (z ∷ xs) x

pub last_of_get : {A : Type 0} (xs : List A) → last_of xs ≡ slice_get xs (length xs - 1)
last_of_get [] = refl
last_of_get (x ∷ []) = refl
last_of_get (x ∷ y ∷ xs) =
    let a : suc (length xs) - 1 ≡ length xs = omega arith in
    let b : suc (suc (length xs)) - 1 ≡ suc (length xs) = omega arith in
    last_of_get (y ∷ xs) ∙ ap (slice_get (y ∷ xs)) a ∙ ap (slice_get (x ∷ y ∷ xs)) (sym b)

pub some_end : {A : Type 0} (xs : List A) (x : A) → is_empty (xs ++ x ∷ []) ≡ false
some_end [] x = refl
some_end (y ∷ xs) x = refl

-- the last item that there is, where there is one
pub last_is : {A : Type 0} (xs : List A) → is_empty xs ≡ false → (x : A) × (last_of xs ≡ Some x)
last_is [] h = absurd (cc)
last_is (x ∷ []) h = (x, refl)
last_is (x ∷ y ∷ xs) h = last_is (y ∷ xs) refl
