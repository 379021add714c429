-- The sizes of types, by the places of records.
use Rattle.std.proofs.Common.{◌≡◌, ◌<◌, ◌≤◌, ◌+◌, ◌==◌, ℕ, zero, suc, ◌⊎◌, List, [], ◌∷◌, ◌++◌, length, slice_get, Option, Some, None, refl, sym, ap, ◌∙◌, inl, inr, arith, eq-eqb, unwrap_or}
use Rattle.std.proofs.lemmas.Bool.{cases_eq, cond-true, cond-false, ne_eqb}
use Rattle.cv_type_defs.specs.Arrays.{size_below}
use Rattle.cv_type_defs.specs.Links.{Target, meant}
use Rattle.cv_type_defs.specs.Records.{kind_at}
use Rattle.cv_type_defs.specs.SimpleTypes.{first_index}
use Rattle.cv_type_defs.specs.TypeRefs.{Info}
use Rattle.cv_type_records.specs.declared.kinds.TypeRec.{TypeRec}
use Rattle.cv_links.proofs.Reaches.{got, none_past, past_end}
use Rattle.cv_structures.specs.steps.Sizes.{AreAllSizes, AreOwn, AreSizes, own_size, simple_size, size_at, size_here, target_size}

-- an index below the first is a simple type
pub simple : (info : Info) (place index : ℕ) → index < first_index → size_below info place index ≡ simple_size index
unfolding size_below
simple info zero index h = refl
simple info (suc place) index h =
    cond-false (index == first_index + place) (size_at info place) (size_below info place index) (ne_eqb index (first_index + place) (λ e. absurd (omega (arith, h, e))))
    ∙ simple info place index h

-- an index at the record's own or past it is looked up as one
pub past : (info : Info) (place index : ℕ) → first_index + place ≤ index → size_below info place index ≡ simple_size index
unfolding size_below
past info zero index h = refl
past info (suc place) index h =
    cond-false (index == first_index + place) (size_at info place) (size_below info place index) (ne_eqb index (first_index + place) (λ e. absurd (omega (arith, h, e))))
    ∙ past info place index (omega (arith, h))

-- an index of a record before it has the size of that
pub before : (info : Info) (place index at : ℕ) → index ≡ first_index + at → at < place → size_below info place index ≡ size_at info at
unfolding size_below
before info zero index at e h = absurd (omega (arith, h))
before info (suc place) index at e h = by_place (cases_eq at place) (λ (g : at < place). before info place index at e g)
  where
    by_place : (at ≡ place) ⊎ (at ≡ place → ⊥) → (at < place → size_below info place index ≡ size_at info at) → size_below info (suc place) index ≡ size_at info at
    by_place (inl same) further =
        cond-true (index == first_index + place) (size_at info place) (size_below info place index) (eq-eqb index (first_index + place) (e ∙ ap (λ n. first_index + n) same))
        ∙ ap (size_at info) (sym same)
    by_place (inr other) further =
        cond-false (index == first_index + place) (size_at info place) (size_below info place index) (ne_eqb index (first_index + place) (λ q. other (omega (arith, e, q))))
        ∙ further (omega (arith, h, other))

pub no_sizes : (info : Info) → AreSizes info []
no_sizes info = record { each = λ place n e. absurd (cc) }

-- one more size is that of the next record
pub one_size : (info : Info) (sizes : List ℕ) (size : ℕ) → AreSizes info sizes → size ≡ size_at info (length sizes) → AreSizes info (sizes ++ size ∷ [])
one_size info sizes size are is = record { each = λ place n e. by_place place n (got sizes size place n e) }
  where
    by_place : (place n : ℕ) → (slice_get sizes place ≡ Some n) ⊎ ((place ≡ length sizes) × (size ≡ n)) → n ≡ size_at info place
    by_place place n (inl h) = are.each place n h
    by_place place n (inr h) = sym h.1 ∙ is ∙ ap (size_at info) (sym h.0)

pub no_own : (info : Info) → AreOwn info []
no_own info = record { each = λ place n e. absurd (cc) }

abbrev own_at : Info → ℕ → ℕ
own_at info place = own_size info place (kind_at info.records place)

-- the same of sizes of records by themselves
pub one_own : (info : Info) (own : List ℕ) (size : ℕ) → AreOwn info own → size ≡ own_size info (length own) (kind_at info.records (length own)) → AreOwn info (own ++ size ∷ [])
one_own info own size are is = record { each = λ place n e. by_place place n (got own size place n e) }
  where
    by_place : (place n : ℕ) → (slice_get own place ≡ Some n) ⊎ ((place ≡ length own) × (size ≡ n)) → n ≡ own_at info place
    by_place place n (inl h) = are.each place n h
    by_place place n (inr h) = sym h.1 ∙ is ∙ ap (own_at info) (sym h.0)

-- past the last record there is none
kind_past : (records : List TypeRec) (at : ℕ) → slice_get records at ≡ None → kind_at records at ≡ None
kind_past records at e = rw e refl

meant_past : (records : List TypeRec) (at : ℕ) → slice_get records at ≡ None → meant records at ≡ Target.Record at
meant_past records at e = rw e refl

size_past : (info : Info) (at : ℕ) → slice_get info.records at ≡ None → size_at info at ≡ 0
size_past info at e =
    let none = kind_past info.records at e in
    ap (size_here info (size_below info at) at) none ∙ ap (target_size info) (meant_past info.records at e) ∙ ap (own_size info at) none

-- the size of a record, from a table of all
pub size_there : (info : Info) (sizes : List ℕ) (at : ℕ) → AreAllSizes info sizes → unwrap_or (slice_get sizes at) 0 ≡ size_at info at
size_there info sizes at are = by_find (slice_get sizes at) refl
  where
    by_find : (o : Option ℕ) → slice_get sizes at ≡ o → unwrap_or o 0 ≡ size_at info at
    by_find (Some n) e = are.are.each at n e
    by_find None e = sym (size_past info at (none_past info.records at (omega (arith, are.all, past_end sizes at e))))
