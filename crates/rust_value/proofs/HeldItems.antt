-- Items that stand for others, put or copied one after the other.
use Rattle.std.proofs.Common.{◌≡◌, ◌∙◌, sym, ap, refl, ℕ, zero, suc, ◌<◌, ◌+◌, Bool, true, List, [], ◌∷◌, ◌++◌, map, length, take, get_or, arith}
use Rattle.std.specs.List.{AllByRecursion}
use mathlib.Core.List.{map-map}
use Rattle.names.specs.Words.{IsWord}
use Rattle.names.specs.Joined.{joined}
use Rattle.rust_value.specs.Named.{AreWords, together}
use Rattle.rust_value.specs.Utf8.{all_true}
use Rattle.rust_value.proofs.Named.{words_of_both}
use Rattle.rust_value.proofs.Items.{comma, both_true, put_next}

-- an item that is there is the same whatever would be in its place
pub same_item : {A : Type 0} (items : List A) (i : ℕ) (d e : A) → i < length items → get_or items i d ≡ get_or items i e
same_item [] i d e l = absurd (omega (arith, l))
same_item (x ∷ items) zero d e l = refl
same_item (x ∷ items) (suc i) d e l = same_item items i d e (omega (arith, l))

-- a test that holds of all that the items stand for holds of what each stands for
pub true_in : {A B : Type 0} (test : B → Bool) (g : A → B) (xs : List A) (i : ℕ) (d : A) →
    all_true (map test (map g xs)) ≡ true → i < length xs → test (g (get_or xs i d)) ≡ true
true_in test g [] i d h l = absurd (omega (arith, l))
true_in test g (y ∷ ys) zero d h l = (both_true (test (g y)) (all_true (map test (map g ys))) h).0
true_in test g (y ∷ ys) (suc i) d h l = true_in test g ys i d (both_true (test (g y)) (all_true (map test (map g ys))) h).1 (omega (arith, l))

-- the next item is put as what it stands for
pub put_next_in : {A B : Type 0} (f : B → List ℕ) (g : A → B) (sep : List ℕ) (xs : List A) (i : ℕ) (d : A) (start before mid after : List ℕ) →
    i < length xs → before ≡ start ++ joined sep (map f (map g (take i xs))) → mid ≡ before ++ comma i sep →
    after ≡ mid ++ f (g (get_or xs i d)) → after ≡ start ++ joined sep (map f (map g (take (i + 1) xs)))
put_next_in f g sep xs i d start before mid after l b m a =
    put_next (λ y. f (g y)) sep xs i (get_or xs i d) start before mid after l (same_item xs i d (get_or xs i d) l)
    (b ∙ ap (λ t. start ++ joined sep t) (map-map f g (take i xs))) m a
    ∙ ap (λ t. start ++ joined sep t) (sym (map-map f g (take (i + 1) xs)))

left_words : (xs ys : List (List ℕ)) → AreWords (xs ++ ys) → AreWords xs
left_words [] ys h = tt
left_words (x ∷ xs) ys h = (h.0, left_words xs ys h.1)

right_words : (xs ys : List (List ℕ)) → AreWords (xs ++ ys) → AreWords ys
right_words [] ys h = h
right_words (x ∷ xs) ys h = right_words xs ys h.1

-- where all names of what the items stand for are words, so are those of what each stands for
pub words_in : {A B : Type 0} (names : B → List (List ℕ)) (g : A → B) (xs : List A) (i : ℕ) (d : A) →
    AreWords (together (map names (map g xs))) → i < length xs → AreWords (names (g (get_or xs i d)))
words_in names g [] i d h l = absurd (omega (arith, l))
words_in names g (y ∷ ys) zero d h l = left_words (names (g y)) (together (map names (map g ys))) h
words_in names g (y ∷ ys) (suc i) d h l =
    words_in names g ys i d (right_words (names (g y)) (together (map names (map g ys))) h) (omega (arith, l))

-- where all names of what items stand for are words, and those of one more, so are those of all
pub words_push : {A B : Type 0} (names : B → List (List ℕ)) (g : A → B) (xs : List A) (x : A) → AreWords (together (map names (map g xs))) →
    AreWords (names (g x)) → AreWords (together (map names (map g (xs ++ x ∷ []))))
words_push names g [] x h k = words_of_both (names (g x)) [] k tt
words_push names g (y ∷ ys) x h k = words_of_both (names (g y)) (together (map names (map g (ys ++ x ∷ []))))
    (left_words (names (g y)) (together (map names (map g ys))) h)
    (words_push names g ys x (right_words (names (g y)) (together (map names (map g ys))) h) k)
