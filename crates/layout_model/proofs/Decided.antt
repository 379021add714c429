-- A set keeps laws or has a first breach: it is never both denied.
use Rattle.std.proofs.Common.{◌≡◌, ℕ, zero, suc, ◌+◌, ◌<◌, ◌≤◌, ◌⊎◌, inl, inr, List, [], ◌∷◌, max, length, Result, Ok, Err, refl, subst, arith}
use Rattle.std.proofs.lemmas.Bool.{cases_lt}
use Rattle.layout_set.specs.declared.set.Set.{Set}
use Rattle.layout_set.specs.declared.breach.Item.{Item}
use Rattle.layout_set.specs.declared.breach.Item.TheVariants as items
use Rattle.layout_set.specs.declared.breach.CheckErr.{CheckErr}
use Rattle.layout_set.specs.declared.breach.CheckErr.TheVariants as checks
use Rattle.layout_set.specs.FirstBreach.{IsItem, Precedes, Numbered, Law, Holds, Fails, Checked, law_of, named}
use Rattle.layout_set.proofs.Firsts.{there_is}

-- it is impossible that there is none
abbrev pub Never : Type 0 → Type 0
Never A = (A → ⊥) → ⊥

-- one of a claim and its denial
pub decided : (A : Type 0) → Never (A ⊎ (A → ⊥))
decided A deny = deny (inr (λ a. deny (inl a)))

-- either all below n hold, or one is the first that doesn't
abbrev FirstBelow : (ℕ → Type 0) → ℕ → Type 0
FirstBelow P n = (i : ℕ) × (i < n) × (P i → ⊥) × ((j : ℕ) → j < i → P j)

below : (P : ℕ → Type 0) (n i : ℕ) → i ≡ n → ((j : ℕ) → j < i → P j) → P i → (j : ℕ) → j < suc n → P j
below P n i e all one j h = elim (cases_lt j i) as (λ _. P j) [
  | inl l ↦ all j l
  | inr g ↦ subst P (let same : i ≡ j = omega (arith, h, g, e) in same) one
]

first_below : (P : ℕ → Type 0) (n : ℕ) → Never (((j : ℕ) → j < n → P j) ⊎ FirstBelow P n)
first_below P zero deny = deny (inl (λ j h. absurd (omega (arith, h))))
first_below P (suc n) deny = first_below P n (λ found. elim found as (λ _. ⊥) [
  | inl all ↦ decided (P n) (λ d. elim d as (λ _. ⊥) [
    | inl p ↦ deny (inl (below P n n refl all p))
    | inr q ↦ deny (inr (n, (let l : n < suc n = omega arith in l), q, all))
  ])
  | inr f ↦ deny (inr (f.0, (let l : f.0 < suc n = omega (arith, f.1) in l), f.2, f.3))
])

-- a law holds, or fails first at some item
holds_or_fails : (set : Set) (law : Law) → Never (Holds set law ⊎ ((x : Item) × Fails set law x))
holds_or_fails set law deny = decided (law items.Whole) (λ w. elim w as (λ _. ⊥) [
  | inr broken ↦ deny (inr (items.Whole, record { is = tt; broken = broken; earlier = before_whole }))
  | inl whole ↦ first_below (λ i. law (items.Def i)) (length set.types) (λ d. elim d as (λ _. ⊥) [
    | inr f ↦ deny (inr (items.Def f.0, record { is = f.1; broken = f.2; earlier = before_def whole f.0 f.3 }))
    | inl defs ↦ first_below (λ i. law (items.Static i)) (length set.statics) (λ s. elim s as (λ _. ⊥) [
      | inr f ↦ deny (inr (items.Static f.0, record { is = f.1; broken = f.2; earlier = before_static whole defs f.0 f.3 }))
      | inl statics ↦ first_below (λ i. law (items.Func i)) (length set.funcs) (λ u. elim u as (λ _. ⊥) [
        | inr f ↦ deny (inr (items.Func f.0, record { is = f.1; broken = f.2; earlier = before_func whole defs statics f.0 f.3 }))
        | inl funcs ↦ deny (inl (all whole defs statics funcs))
      ])
    ])
  ])
])
  where
    before_whole : (x : Item) → IsItem set x → Precedes x items.Whole → law x
    before_whole items.Whole is h = elim h [ ]
    before_whole (items.Def i) is h = elim h [ ]
    before_whole (items.Static i) is h = elim h [ ]
    before_whole (items.Func i) is h = elim h [ ]

    before_def : law items.Whole → (i : ℕ) → ((j : ℕ) → j < i → law (items.Def j)) → (x : Item) → IsItem set x → Precedes x (items.Def i) → law x
    before_def whole i less items.Whole is h = whole
    before_def whole i less (items.Def j) is h = less j h
    before_def whole i less (items.Static j) is h = elim h [ ]
    before_def whole i less (items.Func j) is h = elim h [ ]

    before_static : law items.Whole → ((j : ℕ) → j < length set.types → law (items.Def j)) → (i : ℕ) → ((j : ℕ) → j < i → law (items.Static j)) → (x : Item) → IsItem set x → Precedes x (items.Static i) → law x
    before_static whole defs i less items.Whole is h = whole
    before_static whole defs i less (items.Def j) is h = defs j is
    before_static whole defs i less (items.Static j) is h = less j h
    before_static whole defs i less (items.Func j) is h = elim h [ ]

    before_func : law items.Whole → ((j : ℕ) → j < length set.types → law (items.Def j)) → ((j : ℕ) → j < length set.statics → law (items.Static j)) → (i : ℕ) → ((j : ℕ) → j < i → law (items.Func j)) → (x : Item) → IsItem set x → Precedes x (items.Func i) → law x
    before_func whole defs statics i less items.Whole is h = whole
    before_func whole defs statics i less (items.Def j) is h = defs j is
    before_func whole defs statics i less (items.Static j) is h = statics j is
    before_func whole defs statics i less (items.Func j) is h = less j h

    all : law items.Whole → ((j : ℕ) → j < length set.types → law (items.Def j)) → ((j : ℕ) → j < length set.statics → law (items.Static j)) → ((j : ℕ) → j < length set.funcs → law (items.Func j)) → Holds set law
    all whole defs statics funcs items.Whole is = whole
    all whole defs statics funcs (items.Def j) is = defs j is
    all whole defs statics funcs (items.Static j) is = statics j is
    all whole defs statics funcs (items.Func j) is = funcs j is

-- a number above those of a row
top : List Numbered → ℕ
top [] = 0
top (l ∷ row) = max (l.number + 1) (top row)

-- from there on there is nothing to break
past : (set : Set) (row : List Numbered) (n : ℕ) → top row ≤ n → Holds set (law_of row n)
unfolding top
past set [] n h = λ x is. tt
past set (l ∷ row) n h =
    let other : l.number ≡ n → ⊥ = λ e. omega (arith, e, h) in
    subst (Holds set) (there_is l row n other) (past set row n (omega (arith, h)))

within_row : (set : Set) (row : List Numbered) → ((n : ℕ) → n < top row → Holds set (law_of row n)) → (n : ℕ) → Holds set (law_of row n)
within_row set row all n = elim (cases_lt n (top row)) as (λ _. Holds set (law_of row n)) [ inl l ↦ all n l | inr g ↦ past set row n g ]

-- memory did not run out
abbrev IsKnown : Result (Unit {0}) CheckErr → Type 0
IsKnown (Ok t) = Unit {0}
IsKnown (Err (checks.Breach law at)) = Unit {0}
IsKnown (Err checks.Memory) = ⊥

-- a set keeps a row of laws, or has a first breach
pub checked : (set : Set) (row : List Numbered) → Never ((r : Result (Unit {0}) CheckErr) × Checked set row r × (r ≡ Err checks.Memory → ⊥))
checked set row deny = first_below (λ n. Holds set (law_of row n)) (top row) (λ found. elim found as (λ _. ⊥) [
  | inl all ↦ deny (Ok tt, within_row set row all, λ e. subst IsKnown e tt)
  | inr f ↦ holds_or_fails set (law_of row f.0) (λ h. elim h as (λ _. ⊥) [
    | inl holds ↦ f.2 holds
    | inr at ↦ deny (Err (checks.Breach f.0 (named at.0)), record { lower = f.3; fails = (at.0, (at.1, refl)) }, λ e. subst IsKnown e tt)
  ])
])
