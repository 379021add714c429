-- What is marked is what a link leads to.
use Rattle.std.proofs.Common.{◌≡◌, ◌<◌, ◌≤◌, ◌-◌, ◌==◌, ◌||◌, ◌&&◌, ℕ, zero, suc, nat_lt, Bool, true, false, cond, List, [], ◌∷◌, ◌++◌, filter, get_or, length, ◌⊎◌, inl, inr, refl, sym, ap, subst, ◌∙◌, arith, eq-eqb, get_or-set_other, get_or-set_same}
use Rattle.std.proofs.Math.ListN.{set}
use Rattle.std.proofs.lemmas.Bool.{cases_eq, lt-ltb, le-ltb, ltb-true, ne_eqb}
use Rattle.std.proofs.lemmas.List.{length-set}
use Rattle.std.specs.List.{list_all, list_any, repeat}
use Rattle.cv_symbol_records.specs.declared.kinds.SymRec.{SymRec}
use Rattle.cv_type_records.specs.declared.kinds.TypeRec.{TypeRec}
use Rattle.cv_type_defs.specs.Links.{Target}
use Rattle.cv_type_defs.specs.SimpleTypes.{primitives, simple_pointer}
use Rattle.cv_type_defs.specs.Uses.{used_pointers}
use Rattle.cv_uses.specs.Marks.{marked, no_marks, with_mark, with_marks}
use Rattle.cv_uses.specs.Used.{all_uses}

abbrev is_pointer_to : ℕ → Target → Bool
is_pointer_to t (Target.Simple index) = index == simple_pointer t
is_pointer_to t _ = false

-- the marks of some links and then of others
pub marks_on : (marks : List Bool) (xs ys : List Target) → with_marks marks (xs ++ ys) ≡ with_marks (with_marks marks xs) ys
marks_on marks [] ys = refl
marks_on marks (x ∷ xs) ys = marks_on (with_mark marks x) xs ys

same_length : (marks : List Bool) (to : Target) → length (with_mark marks to) ≡ length marks
same_length marks (Target.Simple index) = by_test (nat_lt index 0x600)
  where
    by_test : (b : Bool) → length (cond b marks (set marks (index - 0x600) true)) ≡ length marks
    by_test true = refl
    by_test false = length-set marks (index - 0x600) true
same_length marks (Target.Record place) = refl
same_length marks (Target.Broken rule) = refl

or_false : (b : Bool) → (b || false) ≡ b
or_false true = refl
or_false false = refl

or_true : (b : Bool) → (b || true) ≡ true
or_true true = refl
or_true false = refl

or_assoc : (a b c : Bool) → ((a || b) || c) ≡ (a || (b || c))
or_assoc true b c = refl
or_assoc false b c = refl

simple_on : (marks : List Bool) (t index : ℕ) → t < length marks → marked (with_mark marks (Target.Simple index)) t ≡ (marked marks t || (index == simple_pointer t))
simple_on marks t index within = by_place (below_or index)
  where
    below_or : (n : ℕ) → (n < 0x600) ⊎ (0x600 ≤ n)
    below_or n = grind arith

    by_mark : 0x600 ≤ index → (index - 0x600 ≡ t) ⊎ (index - 0x600 ≡ t → ⊥) → get_or (set marks (index - 0x600) true) t false ≡ (marked marks t || (index == simple_pointer t))
    by_mark above (inl same) =
        ap (λ i. get_or (set marks i true) t false) same ∙ get_or-set_same marks t true false within
        ∙ sym (ap (λ b. marked marks t || b) (eq-eqb index (simple_pointer t) (omega (arith, above, same))) ∙ or_true (marked marks t))
    by_mark above (inr other) =
        get_or-set_other marks (index - 0x600) t true false (λ e. other (sym e))
        ∙ sym (ap (λ b. marked marks t || b) (ne_eqb index (simple_pointer t) (λ e. other (omega (arith, above, e)))) ∙ or_false (marked marks t))

    by_place : (index < 0x600) ⊎ (0x600 ≤ index) → marked (with_mark marks (Target.Simple index)) t ≡ (marked marks t || (index == simple_pointer t))
    by_place (inl below) =
        ap (λ b. marked (cond b marks (set marks (index - 0x600) true)) t) (lt-ltb index 0x600 below)
        ∙ sym (ap (λ b. marked marks t || b) (ne_eqb index (simple_pointer t) (λ e. absurd (omega (arith, below, e)))) ∙ or_false (marked marks t))
    by_place (inr above) =
        ap (λ b. marked (cond b marks (set marks (index - 0x600) true)) t) (le-ltb index 0x600 above)
        ∙ by_mark above (cases_eq (index - 0x600) t)

one_on : (marks : List Bool) (t : ℕ) (to : Target) → t < length marks → marked (with_mark marks to) t ≡ (marked marks t || is_pointer_to t to)
one_on marks t (Target.Simple index) within = simple_on marks t index within
one_on marks t (Target.Record place) within = sym (or_false (marked marks t))
one_on marks t (Target.Broken rule) within = sym (or_false (marked marks t))

-- a pointer is marked where it was, or where a link leads to it
pub marked_is : (marks : List Bool) (t : ℕ) (targets : List Target) → t < length marks → marked (with_marks marks targets) t ≡ (marked marks t || list_any (is_pointer_to t) targets)
marked_is marks t [] within = sym (or_false (marked marks t))
marked_is marks t (to ∷ targets) within =
    marked_is (with_mark marks to) t targets (subst (λ n. t < n) (sym (same_length marks to)) within)
    ∙ ap (λ b. b || list_any (is_pointer_to t) targets) (one_on marks t to within)
    ∙ or_assoc (marked marks t) (is_pointer_to t to) (list_any (is_pointer_to t) targets)

nothing_marked : (n t : ℕ) → marked (repeat n (false ∷ [])) t ≡ false
nothing_marked zero t = refl
nothing_marked (suc n) zero = refl
nothing_marked (suc n) (suc t) = nothing_marked n t

filter_same : (p q : ℕ → Bool) (xs : List ℕ) → ((t : ℕ) → t < 128 → p t ≡ q t) → list_all (λ t. nat_lt t 128) xs ≡ true → filter p xs ≡ filter q xs
filter_same p q [] same all = refl
filter_same p q (x ∷ xs) same all = by_test (nat_lt x 128) refl all (λ h. filter_same p q xs same h)
  where
    by_rest : p x ≡ q x → filter p xs ≡ filter q xs → filter p (x ∷ xs) ≡ filter q (x ∷ xs)
    by_rest e f = ap (λ b. cond b (x ∷ filter p xs) (filter p xs)) e ∙ ap (λ l. cond (q x) (x ∷ l) l) f

    by_test : (b : Bool) → nat_lt x 128 ≡ b → (b && list_all (λ t. nat_lt t 128) xs) ≡ true → (list_all (λ t. nat_lt t 128) xs ≡ true → filter p xs ≡ filter q xs)
        → filter p (x ∷ xs) ≡ filter q (x ∷ xs)
    by_test true e h rest = by_rest (same x (ltb-true x 128 e)) (rest h)
    by_test false e h rest = absurd (cc)

-- the marked primitives are those that are used
pub used_is : (records : List TypeRec) (symbols : List SymRec) → filter (marked (with_marks no_marks (all_uses records symbols))) primitives ≡ used_pointers records symbols
used_is records symbols =
    filter_same (marked (with_marks no_marks (all_uses records symbols))) (λ t. list_any (is_pointer_to t) (all_uses records symbols)) primitives
    (λ t h. marked_is no_marks t (all_uses records symbols) h ∙ ap (λ b. b || list_any (is_pointer_to t) (all_uses records symbols)) (nothing_marked 128 t)) refl
