-- Names of several values are words.
use Rattle.std.proofs.Common.{◌≡◌, ◌∙◌, sym, ap, subst, ℕ, ◌<◌, ◌+◌, List, [], ◌∷◌, ◌++◌, map, length, take, get_or, append_assoc}
use Rattle.std.proofs.lemmas.List.{map_more, append-nil}
use Rattle.std.proofs.lemmas.Grind.{flat_map-append}
use Rattle.rust_value.specs.declared.value.Part.{Part, fold-roll-Part}
use Rattle.rust_value.specs.Named.{AreWords, names_of, part_names, together, val_step, part_step}

-- names of two lists are words where those of each are
pub words_of_both : (xs ys : List (List ℕ)) → AreWords xs → AreWords ys → AreWords (xs ++ ys)
words_of_both [] ys h g = g
words_of_both (x ∷ xs) ys h g = (h.0, words_of_both xs ys h.1 g)

-- the names of a part are its own and those in its value
pub names_of_part : (part : Part) → part_names part ≡ part.name ∷ names_of part.val
names_of_part part =
    fold-roll-Part (List (List ℕ)) (List (List ℕ)) val_step part_step (record { name = part.name; val = part.val })

-- the names of one more item are words
pub words_more : {A : Type 0} (f : A → List (List ℕ)) (xs : List A) (i : ℕ) (x : A) → i < length xs
    → x ≡ get_or xs i x → AreWords (together (map f (take i xs))) → AreWords (f x)
    → AreWords (together (map f (take (i + 1) xs)))
words_more f xs i x l e h g =
    let more : together (map f (take (i + 1) xs)) ≡ together (map f (take i xs)) ++ f x =
    ap together (map_more f xs i x l ∙ ap (λ y. map f (take i xs) ++ f y ∷ []) (sym e))
    ∙ flat_map-append (λ names. names) (map f (take i xs)) (f x ∷ [])
    ∙ ap (λ r. together (map f (take i xs)) ++ r) (append-nil (f x)) in
    subst AreWords (sym more) (words_of_both (together (map f (take i xs))) (f x) h g)
