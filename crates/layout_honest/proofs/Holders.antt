-- The search for a field that leaves arrays out, where fields don't overlap.
use Rattle.std.proofs.Common.{◌≡◌, ℕ, zero, suc, ◌+◌, ◌-◌, ◌<◌, ◌≤◌, inl, inr, nat_lt, ◌&&◌, not, if◌then◌else◌, Bool, true, false, List, [], ◌∷◌, map, Option, Some, None, slice_get, IsTrue, refl, sym, ap, subst, ◌∙◌, arith}
use Rattle.std.specs.List.{All, AllPairs, filter}
use Rattle.std.proofs.lemmas.Bool.Decides.{nat_tests}
use Rattle.std.proofs.lemmas.Grind.{common_steps}
use Rattle.std.proofs.lemmas.List.Elements.{All-head, All-tail}
use Rattle.layout_set.specs.declared.primitive.Primitive.{Primitive}
use Rattle.layout_set.specs.declared.primitive.Primitive.TheVariants.{«Unit» as UnitPrim}
use Rattle.layout_set.specs.declared.set.Field.{Field}
use Rattle.layout_set.specs.declared.set.TypeRef.{TypeRef}
use Rattle.layout_set.specs.declared.set.TypeRef.TheVariants.{Prim, User}
use Rattle.layout_set.specs.declared.set.TypeDef.{TypeDef}
use Rattle.layout_set.specs.declared.set.TypeDef.TheVariants.{Array}
use Rattle.layout_honest.specs.declared.honesty.Niche.{Niche}
use Rattle.layout_set.specs.Primitives.{prim_bytes, is_whole}
use Rattle.layout_set.specs.Sizes.{size}
use Rattle.layout_set.specs.Overlap.{Apart, AreApart, span_of, spans_of}
use Rattle.layout_honest.specs.Honest.{holds_bytes, holder}
use Rattle.layout_honest.specs.Lies.{is_array_at, is_array, plain_holder, field_lies, def_lies_at, lies}
use Rattle.layout_honest.proofs.Leaves.{untrue}

module _ {X : Type 0} (p : X → Bool) where
  kept : (P : List X → Type 0) (x : X) (xs : List X) → p x ≡ true → P (filter p (x ∷ xs)) → P (x ∷ filter p xs)
  kept P x xs e h = subst (λ b. P (if b then x ∷ filter p xs else filter p xs)) e h

  rest_all : (P : X → Type 0) (x : X) (xs : List X) → All P (filter p (x ∷ xs)) → All P (filter p xs)
  rest_all P x xs h = by_test (p x) h
    where
      by_test : (b : Bool) → All P (if b then x ∷ filter p xs else filter p xs) → All P (filter p xs)
      by_test true all = All-tail P x (filter p xs) all
      by_test false all = all

  rest_pairs : (R : X → X → Type 0) (x : X) (xs : List X) → AllPairs R (filter p (x ∷ xs)) → AllPairs R (filter p xs)
  rest_pairs R x xs h = by_test (p x) h
    where
      by_test : (b : Bool) → AllPairs R (if b then x ∷ filter p xs else filter p xs) → AllPairs R (filter p xs)
      by_test true all = λ i j d lt within. all (suc i) (suc j) d (omega (arith, lt)) (omega (arith, within))
      by_test false all = all

  first_pairs : (R : X → X → Type 0) (x : X) (xs : List X) → p x ≡ true → AllPairs R (filter p (x ∷ xs)) → All (R x) (filter p xs)
  first_pairs R x xs e h =
      let all : AllPairs R (x ∷ filter p xs) = kept (AllPairs R) x xs e h in
      λ k d within. all zero (suc k) d (omega arith) (omega (arith, within))

-- the field has the bytes
record Has (types : List TypeDef) (width off : ℕ) (f : Field) : Type 0 where
  low : f.off ≤ off
  high : off + width ≤ f.off + size 8 types f.ty

has_bytes : (types : List TypeDef) (width off : ℕ) (f : Field) → holds_bytes 8 types width off f ≡ true → Has types width off f
has_bytes types width off f e = record { low = grind (arith, common_steps, nat_tests, e); high = grind (arith, common_steps, nat_tests, e) }

has_size : (types : List TypeDef) (width off : ℕ) (f : Field) → 0 < width → Has types width off f → nat_lt 0 (size 8 types f.ty) ≡ true
has_size types width off f w h = let l = h.low in let u = h.high in let s : 0 < size 8 types f.ty = omega (arith, w, l, u) in grind (arith, nat_tests, s)

-- two fields that have the same bytes overlap
overlap : (types : List TypeDef) (width off : ℕ) (f g : Field) → 0 < width → Has types width off f → Has types width off g → Apart (span_of 8 types f) (span_of 8 types g) → ⊥
overlap types width off f g w a b (inl x) = let l = b.low in let u = a.high in omega (arith, w, l, u, x)
overlap types width off f g w a b (inr x) = let l = a.low in let u = b.high in omega (arith, w, l, u, x)

-- no field beside the one that has the bytes has them
no_second : (types : List TypeDef) (width off : ℕ) (f : Field) → 0 < width → Has types width off f → (fields : List Field) → All (Apart (span_of 8 types f)) (spans_of 8 types fields) → plain_holder 8 types width off fields ≡ None
no_second types width off f w h [] all = refl
no_second types width off f w h (g ∷ fields) all =
    by_test (is_array types g.ty) (holds_bytes 8 types width off g) refl (no_second types width off f w h fields (rest_all (λ s. nat_lt 0 s.1) (Apart (span_of 8 types f)) (span_of 8 types g) (map (span_of 8 types) fields) all))
  where
    by_test : (a b : Bool) → holds_bytes 8 types width off g ≡ b → plain_holder 8 types width off fields ≡ None → (if not a && b then Some g else plain_holder 8 types width off fields) ≡ None
    by_test true b e later = later
    by_test false false e later = later
    by_test false true e later =
        let i = has_bytes types width off g e in
        let first : All (Apart (span_of 8 types f)) (span_of 8 types g ∷ spans_of 8 types fields) = kept (λ s. nat_lt 0 s.1) (All (Apart (span_of 8 types f))) (span_of 8 types g) (map (span_of 8 types) fields) (has_size types width off g w i) all in
        elim (overlap types width off f g w h i (All-head (Apart (span_of 8 types f)) (span_of 8 types g) (spans_of 8 types fields) first)) [ ]

-- what both searches lead to
abbrev Alike : List TypeDef → ℕ → ℕ → (TypeRef → ℕ → Bool) → List Field → Type 0
Alike types width off rest fields = field_lies rest off (plain_holder 8 types width off fields) ≡ field_lies rest off (holder 8 types width off fields)

-- where nothing lies on an array, the search without arrays finds as much
plain_by : (types : List TypeDef) (width off : ℕ) (rest : TypeRef → ℕ → Bool) → ((ty : TypeRef) (o : ℕ) → is_array types ty ≡ true → rest ty o ≡ false) → 0 < width → (fields : List Field) → AllPairs Apart (spans_of 8 types fields) → Alike types width off rest fields
plain_by types width off rest arrays w [] apart = refl
plain_by types width off rest arrays w (f ∷ fields) apart =
    by_test (is_array types f.ty) (holds_bytes 8 types width off f) refl refl (plain_by types width off rest arrays w fields (rest_pairs (λ s. nat_lt 0 s.1) Apart (span_of 8 types f) (map (span_of 8 types) fields) apart))
  where
    by_test : (a b : Bool) → is_array types f.ty ≡ a → holds_bytes 8 types width off f ≡ b → Alike types width off rest fields → field_lies rest off (if not a && b then Some f else plain_holder 8 types width off fields) ≡ field_lies rest off (if b then Some f else holder 8 types width off fields)
    by_test false true d e later = refl
    by_test false false d e later = later
    by_test true false d e later = later
    by_test true true d e later =
        let h = has_bytes types width off f e in
        let none = no_second types width off f w h fields (first_pairs (λ s. nat_lt 0 s.1) Apart (span_of 8 types f) (map (span_of 8 types) fields) (has_size types width off f w h) apart) in
        ap (field_lies rest off) none ∙ sym (arrays f.ty (off - f.off) d)

-- no tag lies on an array
no_array : (k : ℕ) (types : List TypeDef) (niche : Niche) (ty : TypeRef) (off : ℕ) → is_array types ty ≡ true → lies 8 k types niche ty off ≡ false
unfolding lies
no_array zero types niche ty off e = refl
no_array (suc k) types niche (Prim prim) off e = untrue e
no_array (suc k) types niche (User i) off e = at (slice_get types i) e
  where
    at : (o : Option TypeDef) → is_array_at o ≡ true → def_lies_at 8 (lies 8 k types niche) types niche off o ≡ false
    at (Some (Array elem count)) e = refl
    at _ e = untrue e

pub plain_lies : (k : ℕ) (types : List TypeDef) (niche : Niche) (off : ℕ) (fields : List Field) → 0 < niche.width → AreApart (spans_of 8 types fields) → field_lies (lies 8 k types niche) off (plain_holder 8 types niche.width off fields) ≡ field_lies (lies 8 k types niche) off (holder 8 types niche.width off fields)
unfolding AreApart
plain_lies k types niche off fields w apart = plain_by types niche.width off (lies 8 k types niche) (no_array k types niche) w fields apart

-- a whole number has bytes
pub whole_is_wide : (prim : Primitive) → IsTrue (is_whole prim) → 0 < prim_bytes 8 prim
whole_is_wide prim = elim prim as (λ k. IsTrue (is_whole k) → 0 < prim_bytes 8 k) [
  | UnitPrim ↦ λ h. untrue h
  | _ ↦ λ h. omega arith
]
