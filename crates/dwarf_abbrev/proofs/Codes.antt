-- Declarations are found by the places of their codes.
use Rattle.std.proofs.Common.{◌≡◌, ◌≢◌, ℕ, suc, nat_eq, nat_lt, ◌||◌, Bool, true, false, if◌then◌else◌, Bor, get_or, List, [], ◌∷◌, ◌++◌, length, Option, Some, None, refl, sym, ap, subst, ◌∙◌, arith, length-append}
use Rattle.std.specs.Prelude.{slice_get, is_some, IfSome, option_copied, cond, is_err, OnOk, Result, Ok, Err}
use Rattle.std.specs.List.{position, position_or_len, list_any, IsDistinct}
use Rattle.std.specs.Ordering.{nat_cmp, is_eq}
use Rattle.std.specs.BTreeMap.{BTreeMap, Updates}
use Rattle.std.proofs.lemmas.Bool.{leb-true, leb-false}
use Rattle.std.proofs.lemmas.List.Folds.{find_at, position_or_len_push}
use Rattle.std.proofs.lemmas.List.Elements.{All-push}
use Rattle.std.proofs.lemmas.Map.Keys.{IsDistinct-push}
use Rattle.std.proofs.lemmas.Cmp.{nat_eq_equiv}
use Rattle.std.proofs.lemmas.Option.{slice_get_past, slice_get_read}
use Rattle.dwarf_abbrev.specs.Declarations.{find_code, place_of_code, HasPlaces, codes_of, AreCodes, IsFresh, IsDeclaration, AreDeclarations}
use Rattle.dwarf_abbrev.proofs.Loops.{map_push}
use Rattle.dwarf_abbrev.specs.declared.decl.Abbrev.{Abbrev}

-- what the place of the code says of the declarations
abbrev pub Found : List Abbrev → ℕ → Option ℕ → Type 0
Found list code None = find_code list code ≡ None
Found list code (Some i) = find_code list code ≡ slice_get list i

pub found : (list : List Abbrev) (code : ℕ) (o : Option ℕ) → o ≡ place_of_code list code → Found list code o
found list code o e = by_test (nat_lt (position_or_len (λ a. nat_eq code a.code) list) (length list)) refl o e
  where
    by_test : (b : Bool) → nat_lt (position_or_len (λ a. nat_eq code a.code) list) (length list) ≡ b → (o : Option ℕ) → o ≡ (if b then Some (position_or_len (λ a. nat_eq code a.code) list) else None) → Found list code o
    by_test true t None e = absurd (cc)
    by_test true t (Some i) e = find_at (λ a. nat_eq code a.code) list ∙ ap (slice_get list) (let x : position_or_len (λ a. nat_eq code a.code) list ≡ i = cc in x)
    by_test false t (Some i) e = absurd (cc)
    by_test false t None e = find_at (λ a. nat_eq code a.code) list ∙ slice_get_past list _ (omega (arith, leb-false _ _ t))

-- what a slice gives at an index is the list's element there
pub copied_is : {A : Type 0} (list : List A) (i : ℕ) (o : Option (Bor A)) → is_some o ≡ nat_lt i (length list) → IfSome o (λ x. x.now ≡ get_or list i x.now) → option_copied o ≡ slice_get list i
copied_is list i None t h = sym (slice_get_past list i (omega (arith, leb-false (suc i) (length list) (sym t))))
copied_is list i (Some x) t h = sym (slice_get_read list (length list) i x.now refl (leb-true (suc i) (length list) (sym t)) h)

-- a code is one of the declarations' codes where a declaration has it
any_code : (code : ℕ) (list : List Abbrev) → list_any (nat_eq code) (codes_of list) ≡ list_any (λ a. nat_eq code a.code) list
any_code code [] = refl
any_code code (a ∷ list) = ap (λ b. nat_eq code a.code || b) (any_code code list)

-- a list in which no element passes has no place of one
none_passes : {X : Type 0} (p : X → Bool) (xs : List X) → list_any p xs ≡ false → position_or_len p xs ≡ length xs
none_passes p [] h = refl
none_passes p (x ∷ xs) h = grind (arith, none_passes p xs)

-- the place of a code after one declaration more, whose code is new
placed_on : (list : List Abbrev) (a : Abbrev) (q : ℕ) → list_any (λ b. nat_eq a.code b.code) list ≡ false → place_of_code (list ++ a ∷ []) q ≡ cond (is_eq (nat_cmp a.code q)) (Some (length list)) (place_of_code list q)
placed_on list a q h = grind (arith, none_passes (λ b. nat_eq a.code b.code) list h, position_or_len_push (λ b. nat_eq q b.code) list a, length-append list (a ∷ []))

-- so the map with the new place has the places of all
pub places_on : (old new : BTreeMap ℕ ℕ) (list : List Abbrev) (a : Abbrev) → HasPlaces old list → IsFresh (codes_of list) a.code → Updates nat_cmp old new a.code (Some (length list)) → HasPlaces new (list ++ a ∷ [])
places_on old new list a h f u q = u.0 q ∙ ap (cond (is_eq (nat_cmp a.code q)) (Some (length list))) (h q) ∙ sym (placed_on list a q (sym (any_code a.code list) ∙ f.0))

-- a code is there where the map has it
pub has_code : (list : List Abbrev) (code : ℕ) → is_some (place_of_code list code) ≡ list_any (nat_eq code) (codes_of list)
has_code list code = is_some_place (λ a. nat_eq code a.code) list ∙ sym (any_code code list)
  where
    is_some_place : {X : Type 0} (p : X → Bool) (xs : List X) → is_some (position p xs) ≡ list_any p xs
    is_some_place p [] = refl
    is_some_place p (x ∷ xs) = grind (arith, is_some_place p xs)

-- where there are no declarations, there is none with a fault
pub no_declarations : AreDeclarations []
unfolding IsDistinct
no_declarations = record { codes = (tt, λ i d l. absurd (omega (arith, l))); each = λ i d l. absurd (omega (arith, l)) }

-- the codes with a new one are distinct, and none of them is 0
pub declarations_on : (list : List Abbrev) (a : Abbrev) → AreDeclarations list → IsFresh (codes_of list) a.code → IsDeclaration a → AreDeclarations (list ++ a ∷ [])
declarations_on list a h f d = record {
  codes = subst AreCodes (map_push (λ a. a.code) list a) (IsDistinct-push nat_eq_equiv (codes_of list) a.code h.codes.0 f.0, All-push (λ code. code ≢ 0) (codes_of list) a.code h.codes.1 f.1);
  each = All-push IsDeclaration list a h.each d;
}

-- what holds where a call succeeds
pub succeeds : {A E : Type 0} (o : Result A E) (X : Type 0) → is_err o ≡ false → OnOk o X → X
succeeds (Ok v) X e h = h
succeeds (Err d) X e h = absurd (cc)
