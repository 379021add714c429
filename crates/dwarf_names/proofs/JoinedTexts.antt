-- Texts with `::` between each two.
use Rattle.std.proofs.Common.{◌≡◌, ◌<◌, ℕ, ◌+◌, nat_lt, if◌then◌else◌, List, [], ◌∷◌, ◌++◌, length, map, reverse, filter, codes, Bool, true, false, refl, sym, ap, ◌∙◌, arith, append_assoc, append-nil, length-append}
use Rattle.std.specs.List.{flat_map}
use mathlib.Core.List.{map-map}
use Rattle.std.proofs.lemmas.List.{map-append, reverse-append}
use Rattle.std.proofs.lemmas.List.Concat.{flat_map-append}
use Rattle.std.proofs.lemmas.List.Folds.{flat_map-map}
use Rattle.std.proofs.lemmas.Bool.Decides.{nat_tests}
use Rattle.names.specs.Joined.{joined}
use Rattle.dwarf_entries.specs.Dies.{ancestors}
use Rattle.dwarf_entries.specs.Names.{is_complete, joined_text, proper_name, texts_around}
use Rattle.dwarf_dies.specs.Handles.{DieIn, beside}
use Rattle.dwarf_names.specs.Scopes.{is_scope, scoped_text, scopes_around, scopes_before, text_of}

-- what stands before the last text has a separator after each
rest_joined : (sep own : List ℕ) (xs : List (List ℕ)) → flat_map (λ y. sep ++ y) (xs ++ own ∷ []) ≡ sep ++ (flat_map (λ t. t ++ sep) xs ++ own)
rest_joined sep own [] = append-nil (sep ++ own)
rest_joined sep own (y ∷ ys) = ap (λ (x : List ℕ). (sep ++ y) ++ x) (rest_joined sep own ys) ∙ simp append_assoc

joined_is : (sep own : List ℕ) (xs : List (List ℕ)) → joined sep (xs ++ own ∷ []) ≡ flat_map (λ t. t ++ sep) xs ++ own
joined_is sep own [] = append-nil own
joined_is sep own (x ∷ xs) = ap (λ (z : List ℕ). x ++ z) (rest_joined sep own xs) ∙ simp append_assoc

-- the text of a scope with `::` after it
abbrev pub put : DieIn → List ℕ
put s = text_of s ++ codes "::"

pub scoped_is : (scopes : List DieIn) (own : List ℕ) → scoped_text scopes own ≡ flat_map put (reverse scopes) ++ own
scoped_is scopes own =
    joined_is (codes "::") own (map text_of (reverse scopes))
    ∙ ap (λ (x : List ℕ). x ++ own) (flat_map-map (λ (t : List ℕ). t ++ codes "::") text_of (reverse scopes))

-- how many bytes the texts of scopes take
abbrev pub cost : List DieIn → ℕ
cost [] = 0
cost (s ∷ scopes) = (length (text_of s) + 2) + cost scopes

cost_is : (scopes : List DieIn) → length (flat_map put (reverse scopes)) ≡ cost scopes
cost_is [] = refl
cost_is (s ∷ scopes) =
    ap (λ l. length (flat_map put l)) (reverse-append (s ∷ []) scopes)
    ∙ ap length (flat_map-append put (reverse scopes) (s ∷ []))
    ∙ length-append (flat_map put (reverse scopes)) (put s ++ [])
    ∙ omega (arith, cost_is scopes, ap length (append-nil (put s)), length-append (text_of s) (codes "::"))

pub scoped_length : (scopes : List DieIn) (own : List ℕ) → length (scoped_text scopes own) ≡ cost scopes + length own
scoped_length scopes own =
    ap length (scoped_is scopes own) ∙ length-append (flat_map put (reverse scopes)) own ∙ ap (λ n. n + length own) (cost_is scopes)

map_reverse : {A B : Type 0} (f : A → B) (xs : List A) → map f (reverse xs) ≡ reverse (map f xs)
map_reverse f [] = refl
map_reverse f (x ∷ xs) =
    ap (map f) (reverse-append (x ∷ []) xs) ∙ map-append f (reverse xs) (x ∷ []) ∙ ap (λ ys. ys ++ f x ∷ []) (map_reverse f xs)
    ∙ sym (reverse-append (f x ∷ []) (map f xs))

-- the texts around an entry are those of the scopes around it
texts_are : (d : DieIn) → texts_around d.info d.die ≡ map text_of (reverse (scopes_around d))
texts_are d =
    let scopes = filter is_scope (ancestors d.die) in
    sym (ap (map text_of) (sym (map_reverse (beside d) scopes)) ∙ map-map text_of (beside d) (reverse scopes))

joined_by : (d : DieIn) (b : Bool)
    → (if b then text_of d else joined (codes "::") (texts_around d.info d.die ++ text_of d ∷ [])) ≡ scoped_text (if b then [] else scopes_around d) (text_of d)
joined_by d true = sym (append-nil (text_of d))
joined_by d false = ap (λ (x : List (List ℕ)). joined (codes "::") (x ++ text_of d ∷ [])) (texts_are d)

-- the text of an entry's name is its own after those of the scopes before it
pub joined_scoped : (d : DieIn) → joined_text d.info d.die ≡ scoped_text (scopes_before d) (text_of d)
joined_scoped d = joined_by d (is_complete (proper_name (text_of d)))

-- more than fits is too long
pub long_then : (scopes : List DieIn) (own : List ℕ) → 65535 < cost scopes → true ≡ nat_lt 65535 (length (scoped_text scopes own))
long_then scopes own h = let e = scoped_length scopes own in grind (arith, nat_tests)

-- a text that fits in what is left after the scopes is short enough, and no other
pub long_last : (scopes : List DieIn) (own : List ℕ) (left : ℕ) → 65535 ≡ cost scopes + left → nat_lt left (length own) ≡ nat_lt 65535 (length (scoped_text scopes own))
long_last scopes own left h = let e = scoped_length scopes own in grind (arith, nat_tests)
