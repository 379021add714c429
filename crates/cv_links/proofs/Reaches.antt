-- Where indices lead, by the place of their record.
use Rattle.std.proofs.Common.{◌≡◌, ◌<◌, ◌≤◌, ◌+◌, ◌==◌, ℕ, zero, suc, ◌⊎◌, List, [], ◌∷◌, ◌++◌, length, slice_get, nat_lt, Some, None, refl, sym, ap, ◌∙◌, inl, inr, arith, eq-eqb}
use Rattle.std.proofs.lemmas.Bool.{cases_eq, cond-true, cond-false, lt-ltb, le-ltb, ne_eqb}
use Rattle.cv_type_defs.specs.Links.{Target, target}
use Rattle.cv_type_defs.specs.Rules.{bad_index}
use Rattle.cv_type_defs.specs.SimpleTypes.{first_index}
use Rattle.cv_type_records.specs.declared.kinds.TypeRec.{TypeRec}
use Rattle.cv_links.specs.Ends.{AreEnds, end_at}
use Rattle.cv_links.specs.Seen.{target_seen}
use Rattle.cv_links.specs.declared.target.Target.{Target as ReadTarget}

-- an index below the first is a simple type
pub simple : (records : List TypeRec) (place index : ℕ) → index < first_index → target records place index ≡ Target.Simple index
unfolding target
simple records zero index h = cond-true (nat_lt index first_index) (Target.Simple index) (Target.Broken bad_index) (lt-ltb index first_index h)
simple records (suc place) index h =
    cond-false (index == first_index + place) (end_at records place) (target records place index) (ne_eqb index (first_index + place) (λ e. absurd (omega (arith, h, e))))
    ∙ simple records place index h

-- an index at the record's own or past it is broken
pub past : (records : List TypeRec) (place index : ℕ) → first_index + place ≤ index → target records place index ≡ Target.Broken bad_index
unfolding target
past records zero index h = cond-false (nat_lt index first_index) (Target.Simple index) (Target.Broken bad_index) (le-ltb index first_index (omega (arith, h)))
past records (suc place) index h =
    cond-false (index == first_index + place) (end_at records place) (target records place index) (ne_eqb index (first_index + place) (λ e. absurd (omega (arith, h, e))))
    ∙ past records place index (omega (arith, h))

-- an index of a record before it leads where that of the record does
pub before : (records : List TypeRec) (place index at : ℕ) → index ≡ first_index + at → at < place → target records place index ≡ end_at records at
unfolding target
before records zero index at e h = absurd (omega (arith, h))
before records (suc place) index at e h = by_place (cases_eq at place) (λ (g : at < place). before records place index at e g)
  where
    by_place : (at ≡ place) ⊎ (at ≡ place → ⊥) → (at < place → target records place index ≡ end_at records at) → target records (suc place) index ≡ end_at records at
    by_place (inl same) further =
        cond-true (index == first_index + place) (end_at records place) (target records place index) (eq-eqb index (first_index + place) (e ∙ ap (λ n. first_index + n) same))
        ∙ ap (end_at records) (sym same)
    by_place (inr other) further =
        cond-false (index == first_index + place) (end_at records place) (target records place index) (ne_eqb index (first_index + place) (λ q. other (omega (arith, e, q))))
        ∙ further (omega (arith, h, other))

-- one more is the last
pub got : {A : Type 0} (xs : List A) (y : A) (k : ℕ) (v : A) → slice_get (xs ++ y ∷ []) k ≡ Some v → (slice_get xs k ≡ Some v) ⊎ ((k ≡ length xs) × (y ≡ v))
got [] y zero v e = inr (refl, cc)
got [] y (suc k) v e = absurd (cc)
got (x ∷ xs) y zero v e = inl e
got (x ∷ xs) y (suc k) v e = elim (got xs y k v e) [ inl h ↦ inl h | inr h ↦ inr (ap suc h.0, h.1) ]

pub no_ends : (records : List TypeRec) → AreEnds records []
no_ends records = record { each = λ place end e. absurd (cc) }

pub one_more : (records : List TypeRec) (ends : List ReadTarget) (end : ReadTarget) → AreEnds records ends → target_seen end ≡ end_at records (length ends) → AreEnds records (ends ++ end ∷ [])
one_more records ends end are is = record { each = λ place other e. by_place place other (got ends end place other e) }
  where
    by_place : (place : ℕ) (other : ReadTarget) → (slice_get ends place ≡ Some other) ⊎ ((place ≡ length ends) × (end ≡ other)) → target_seen other ≡ end_at records place
    by_place place other (inl h) = are.each place other h
    by_place place other (inr h) = sym (ap target_seen h.1) ∙ is ∙ ap (end_at records) (sym h.0)

-- no record leads on from a place without one
pub none_there : (records : List TypeRec) (place : ℕ) → slice_get records place ≡ None → end_at records place ≡ Target.Record place
none_there records place e = rw e refl

-- no element is at a place past the end, and only there
pub past_end : {A : Type 0} (xs : List A) (k : ℕ) → slice_get xs k ≡ None → length xs ≤ k
past_end [] k e = omega arith
past_end (x ∷ xs) zero e = absurd (cc)
past_end (x ∷ xs) (suc k) e = let r = past_end xs k e in omega (arith, r)

pub within : {A : Type 0} (xs : List A) (k : ℕ) (v : A) → slice_get xs k ≡ Some v → k < length xs
within [] k v e = absurd (cc)
within (x ∷ xs) zero v e = omega arith
within (x ∷ xs) (suc k) v e = let r = within xs k v e in omega (arith, r)

pub none_past : {A : Type 0} (xs : List A) (k : ℕ) → length xs ≤ k → slice_get xs k ≡ None
none_past [] k h = refl
none_past (x ∷ xs) zero h = absurd (omega (arith, h))
none_past (x ∷ xs) (suc k) h = none_past xs k (omega (arith, h))
