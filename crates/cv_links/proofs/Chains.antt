-- The members of lists, step by step.
use Rattle.std.proofs.Common.{◌≡◌, ◌<◌, ◌≤◌, ◌+◌, ◌==◌, ℕ, zero, suc, ◌⊎◌, List, [], ◌∷◌, nat_lt, Option, Some, None, Result, Ok, Err, refl, sym, ap, subst, ◌∙◌, inl, inr, arith, eq-eqb}
use Rattle.std.proofs.lemmas.Bool.{cases_eq, cond-true, cond-false, lt-ltb, le-ltb, ne_eqb}
use Rattle.std.specs.Result.{result_ok}
use Rattle.cv_type_defs.specs.FieldLists.{Members, Placed, members_below, members_of, no_members}
use Rattle.cv_type_defs.specs.Rules.{bad_index, wrong_kind}
use Rattle.cv_type_defs.specs.SimpleTypes.{first_index}
use Rattle.cv_type_records.specs.declared.kinds.Member.{Member}
use Rattle.cv_type_records.specs.declared.kinds.TypeRec.{TypeRec}
use Rattle.cv_links.specs.declared.members.Part.{Part}
use Rattle.cv_links.specs.Lists.{begun, continued, from_list, index_in, list_at, placed, still}

-- a simple type is no list
pub simple : (records : List TypeRec) (place index : ℕ) → index < first_index → members_below records place index ≡ no_members (Some wrong_kind)
unfolding members_below
simple records zero index h = ap (λ rule. no_members (Some rule)) (cond-true (nat_lt index first_index) wrong_kind bad_index (lt-ltb index first_index h))
simple records (suc place) index h =
    cond-false (index == first_index + place) (list_at records place) (members_below records place index) (ne_eqb index (first_index + place) (λ e. absurd (omega (arith, h, e))))
    ∙ simple records place index h

-- an index at the record's own or past it is broken
pub past : (records : List TypeRec) (place index : ℕ) → first_index + place ≤ index → members_below records place index ≡ no_members (Some bad_index)
unfolding members_below
past records zero index h = ap (λ rule. no_members (Some rule)) (cond-false (nat_lt index first_index) wrong_kind bad_index (le-ltb index first_index (omega (arith, h))))
past records (suc place) index h =
    cond-false (index == first_index + place) (list_at records place) (members_below records place index) (ne_eqb index (first_index + place) (λ e. absurd (omega (arith, h, e))))
    ∙ past records place index (omega (arith, h))

-- an index of a record before it leads to the list that the record is
pub before : (records : List TypeRec) (place index at : ℕ) → index ≡ first_index + at → at < place → members_below records place index ≡ list_at records at
unfolding members_below
before records zero index at e h = absurd (omega (arith, h))
before records (suc place) index at e h = by_place (cases_eq at place) (λ (g : at < place). before records place index at e g)
  where
    by_place : (at ≡ place) ⊎ (at ≡ place → ⊥) → (at < place → members_below records place index ≡ list_at records at) → members_below records (suc place) index ≡ list_at records at
    by_place (inl same) further =
        cond-true (index == first_index + place) (list_at records place) (members_below records place index) (eq-eqb index (first_index + place) (e ∙ ap (λ n. first_index + n) same))
        ∙ ap (list_at records) (sym same)
    by_place (inr other) further =
        cond-false (index == first_index + place) (list_at records place) (members_below records place index) (ne_eqb index (first_index + place) (λ q. other (omega (arith, e, q))))
        ∙ further (omega (arith, h, other))

-- the items after a member
abbrev pub rest_items : List TypeRec → ℕ → List Member → Option ℕ → List Placed
rest_items records list rest None = (from_list records list rest).items
rest_items records list rest (Some index) = (members_below records list index).items

-- a member is the first of its list, and the others follow
pub one_more : (records : List TypeRec) (list : ℕ) (m : Member) (rest : List Member) → (from_list records list (m ∷ rest)).items ≡ placed list m ∷ rest_items records list rest (index_in m)
one_more records list (Member.Index zero_field fields) rest = refl
one_more records list (Member.Enumerate attributes number name) rest = refl
one_more records list (Member.Field attributes ty offset name) rest = refl
one_more records list (Member.Static attributes ty name) rest = refl
one_more records list (Member.Nest zero_field ty name) rest = refl

-- the rule at the end is that of the list to which members go on
abbrev pub rest_rule : List TypeRec → ℕ → Option ℕ → Option ℕ
rest_rule records list None = None
rest_rule records list (Some index) = (members_below records list index).rule

pub rule_at_end : (records : List TypeRec) (list : ℕ) (members : List Member) → (from_list records list members).rule ≡ rest_rule records list (continued members)
rule_at_end records list [] = refl
rule_at_end records list (Member.Index zero_field fields ∷ rest) = refl
rule_at_end records list (Member.Enumerate attributes number name ∷ rest) = rule_at_end records list rest
rule_at_end records list (Member.Field attributes ty offset name ∷ rest) = rule_at_end records list rest
rule_at_end records list (Member.Static attributes ty name ∷ rest) = rule_at_end records list rest
rule_at_end records list (Member.Nest zero_field ty name ∷ rest) = rule_at_end records list rest

-- what is still to come of what was begun
pub still_begun : (records : List TypeRec) (r : Result Part ℕ) (m : Members) → begun records r ≡ m → m.items ≡ still records (result_ok r)
still_begun records (Ok part) m e = ap (λ (x : Members). x.items) (sym e)
still_begun records (Err rule) m e = ap (λ (x : Members). x.items) (sym e)

-- a field list begins where its index leads, unless that is 0
pub started : (records : List TypeRec) (place fields : ℕ) (r : Result Part ℕ) (o : Option Part) → begun records r ≡ members_below records place fields → o ≡ result_ok r → (fields ≡ 0 → ⊥)
    → still records o ≡ (members_of records place fields).items
started records place fields r o e is not =
    ap (still records) is ∙ sym (still_begun records r (members_below records place fields) e)
    ∙ ap (λ (x : Members). x.items) (sym (cond-false (fields == 0) (no_members None) (members_below records place fields) (ne_eqb fields 0 not)))

-- how many lists may still be read
abbrev pub steps_left : ℕ → Option ℕ → ℕ
steps_left at None = 0
steps_left at (Some index) = at + 1

pub steps_fall : (at list index : ℕ) (next more : Option ℕ) → next ≡ Some index → list < at → steps_left list more < steps_left at next
steps_fall at list index next None e h = subst (λ n. 0 < steps_left at n) (sym e) (omega (arith, h))
steps_fall at list index next (Some i) e h = subst (λ n. list + 1 < steps_left at n) (sym e) (omega (arith, h))
