-- How the map of base types grows, entry by entry.
use Rattle.std.proofs.Common.{◌≡◌, ◌<◌, ◌≤◌, ℕ, zero, suc, List, [], ◌∷◌, length, map, drop, slice_get, cond, Bool, true, false, if◌then◌else◌, Option, Some, None, option_and_then, Result, ◌⊎◌, inl, inr, sym, ap, subst, ◌∙◌, arith}
use Rattle.std.specs.BTreeMap.{BTreeMap, Updates, get}
use Rattle.std.specs.Ordering.{nat_cmp, is_eq}
use Rattle.std.proofs.lemmas.Bool.{cases_lt}
use Rattle.std.proofs.lemmas.Option.{slice_get_past}
use Rattle.layout_set.specs.declared.primitive.Primitive.{Primitive}
use Rattle.dwarf_entries.specs.Dies.{Die, Info, what}
use Rattle.dwarf_entries.specs.Primitives.{base_type_of}
use Rattle.dwarf_entries.specs.Tags.{passes}
use Rattle.dwarf_dies.specs.Handles.{DieIn, IsFound, among}
use Rattle.dwarf_dies.specs.Views.{die_of}
use Rattle.dwarf_scopes.specs.Tags.{is_base_type}
use Rattle.dwarf_links.specs.BaseTypes.{HasBaseTypes, base_type_in}

abbrev base_type_at : Info → ℕ → Option (Result Primitive ℕ)
base_type_at info n = option_and_then (base_type_in info) (die_of info n)

-- the map has what those below a number are, and no other entry
record AreKept (info : Info) (next : ℕ) (kinds : BTreeMap ℕ (Result Primitive ℕ)) : Type 0 where
  below : (n : ℕ) → n < next → get nat_cmp kinds n ≡ base_type_at info n
  others : (n : ℕ) → next ≤ n → get nat_cmp kinds n ≡ None

-- these entries are still to come, and the map has what those before them are
pub record AreSoFar (info : Info) (left : List DieIn) (kinds : BTreeMap ℕ (Result Primitive ℕ)) : Type 0 where
  next : ℕ
  still : left ≡ map (among info) (drop next info.dies)
  kept : AreKept info next kinds

-- the first that is still to come
record IsNext (info : Info) (n : ℕ) (a : DieIn) (left : List DieIn) : Type 0 where
  found : die_of info n ≡ Some a.die
  here : a.info ≡ info
  more : left ≡ map (among info) (drop (suc n) info.dies)

abbrev IsNextIn : Info → List Die → ℕ → DieIn → List DieIn → Type 0
IsNextIn info l n a left = (slice_get l n ≡ Some a.die) × ((a.info ≡ info) × (left ≡ map (among info) (drop (suc n) l)))

next_in : (info : Info) (l : List Die) (n : ℕ) (a : DieIn) (left : List DieIn) → a ∷ left ≡ map (among info) (drop n l) → IsNextIn info l n a left
next_in info [] zero a left h = absurd (cc)
next_in info [] (suc n) a left h = absurd (cc)
next_in info (d ∷ l) zero a left h =
    let same : a ≡ among info d = cc in
    let rest : left ≡ map (among info) l = cc in
    (ap (λ x. Some x.die) (sym same), (ap (λ x. x.info) same, rest))
next_in info (d ∷ l) (suc n) a left h = next_in info l n a left h

past_all : (info : Info) (l : List Die) (n : ℕ) → [] ≡ map (among info) (drop n l) → length l ≤ n
past_all info [] n h = omega arith
past_all info (d ∷ l) zero h = absurd (cc)
past_all info (d ∷ l) (suc n) h = let r = past_all info l n h in omega (arith, r)

-- before the first entry
pub none_yet : (info : Info) (left : List DieIn) (kinds : BTreeMap ℕ (Result Primitive ℕ)) → left ≡ map (among info) info.dies → ((n : ℕ) → get nat_cmp kinds n ≡ None) → AreSoFar info left kinds
none_yet info left kinds is none = record { next = 0; still = is; kept = record { below = λ n l. absurd (omega (arith, l)); others = λ n l. none n } }

one_kept : (info : Info) (n : ℕ) (old new : BTreeMap ℕ (Result Primitive ℕ)) (kind : Result Primitive ℕ) → AreKept info n old → Updates nat_cmp old new n (Some kind) → base_type_at info n ≡ Some kind
    → AreKept info (suc n) new
one_kept info n old new kind kept u is = record { below = λ k lt. by_case k lt (cases_lt k n); others = λ k le. after k le }
  where
    same_key : (k : ℕ) → n ≡ k → is_eq (nat_cmp n k) ≡ true
    same_key k e = grind (arith, e)

    at_it : (k : ℕ) → n ≡ k → get nat_cmp new k ≡ base_type_at info k
    at_it k e = u.0 k ∙ ap (λ b. cond b (Some kind) (get nat_cmp old k)) (same_key k e) ∙ sym is ∙ ap (base_type_at info) e

    other_key : (k : ℕ) → (n ≡ k → ⊥) → is_eq (nat_cmp n k) ≡ false
    other_key k e = grind (arith, e)

    apart : (k : ℕ) → (n ≡ k → ⊥) → get nat_cmp new k ≡ get nat_cmp old k
    apart k e = u.0 k ∙ ap (λ b. cond b (Some kind) (get nat_cmp old k)) (other_key k e)

    by_case : (k : ℕ) → k < suc n → (k < n) ⊎ (n ≤ k) → get nat_cmp new k ≡ base_type_at info k
    by_case k lt (inl l) = apart k (λ e. absurd (omega (arith, e, l))) ∙ kept.below k l
    by_case k lt (inr l) = at_it k (omega (arith, lt, l))

    after : (k : ℕ) → suc n ≤ k → get nat_cmp new k ≡ None
    after k le = apart k (λ e. absurd (omega (arith, e, le))) ∙ kept.others k (omega (arith, le))

none_kept : (info : Info) (n : ℕ) (kinds : BTreeMap ℕ (Result Primitive ℕ)) → AreKept info n kinds → base_type_at info n ≡ None → AreKept info (suc n) kinds
none_kept info n kinds kept none = record { below = λ k lt. by_case k lt (cases_lt k n); others = λ k le. kept.others k (omega (arith, le)) }
  where
    by_case : (k : ℕ) → k < suc n → (k < n) ⊎ (n ≤ k) → get nat_cmp kinds k ≡ base_type_at info k
    by_case k lt (inl l) = kept.below k l
    by_case k lt (inr l) =
        let e : n ≡ k = omega (arith, lt, l) in
        kept.others k l ∙ sym (ap (λ i. base_type_at info i) (sym e) ∙ none)

kind_by : (info : Info) (d : Die) → (b : Bool) → passes is_base_type (what d) ≡ b → base_type_in info d ≡ (if b then Some (base_type_of info d) else None)
kind_by info d b h = ap (λ t. if t then Some (base_type_of info d) else None) h

-- a base type is kept
pub one_more : (info : Info) (a : DieIn) (left : List DieIn) (number : ℕ) (old new : BTreeMap ℕ (Result Primitive ℕ)) (kind : Result Primitive ℕ) → AreSoFar info (a ∷ left) old
    → passes is_base_type (what a.die) ≡ true → kind ≡ base_type_of a.info a.die → IsFound a → number ≡ a.die.entry.number → Updates nat_cmp old new number (Some kind) → AreSoFar info left new
one_more info a left number old new kind so test is found named u =
    let n = so.next in
    let h = next_in info info.dies n a left so.still in
    let numbered : number ≡ n = named ∙ found.laws.numbers n a.die (subst (λ i. die_of i n ≡ Some a.die) (sym h.1.0) h.0) in
    let here : base_type_at info n ≡ Some kind =
    ap (option_and_then (base_type_in info)) h.0 ∙ kind_by info a.die true test ∙ ap (λ k. Some k) (sym (is ∙ ap (λ i. base_type_of i a.die) h.1.0)) in
    record { next = suc n; still = h.1.1; kept = one_kept info n old new kind so.kept (subst (λ k. Updates nat_cmp old new k (Some kind)) numbered u) here }

-- any other entry isn't
pub no_more : (info : Info) (a : DieIn) (left : List DieIn) (kinds : BTreeMap ℕ (Result Primitive ℕ)) → AreSoFar info (a ∷ left) kinds → passes is_base_type (what a.die) ≡ false → AreSoFar info left kinds
no_more info a left kinds so test =
    let n = so.next in
    let h = next_in info info.dies n a left so.still in
    record { next = suc n; still = h.1.1; kept = none_kept info n kinds so.kept (ap (option_and_then (base_type_in info)) h.0 ∙ kind_by info a.die false test) }

-- after the last entry the map has them all
pub all_so_far : (info : Info) (left : List DieIn) (kinds : BTreeMap ℕ (Result Primitive ℕ)) → left ≡ [] → AreSoFar info left kinds → HasBaseTypes info kinds
all_so_far info left kinds is so k = by_case (cases_lt k so.next)
  where
    long : length info.dies ≤ so.next
    long = past_all info info.dies so.next (sym is ∙ so.still)

    by_case : (k < so.next) ⊎ (so.next ≤ k) → get nat_cmp kinds k ≡ base_type_at info k
    by_case (inl l) = so.kept.below k l
    by_case (inr l) = so.kept.others k l ∙ sym (ap (option_and_then (base_type_in info)) (slice_get_past info.dies k (omega (arith, long, l))))
