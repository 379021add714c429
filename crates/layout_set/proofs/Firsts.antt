-- The first law that fails, from what is found of each.
use Rattle.std.proofs.Common.{min, ◌≡◌, ℕ, ◌+◌, ◌==◌, ◌<◌, ◌≤◌, ◌⊎◌, inl, inr, List, [], ◌∷◌, ◌++◌, length, Bool, true, false, Option, Some, None, Result, Ok, Err, refl, sym, ◌∙◌, ap, subst, arith}
use Rattle.std.specs.Bool.{Decides}
use Rattle.std.proofs.lemmas.Bool.{cases_lt, cases_order, eq-eqb, ne_eqb}
use Rattle.layout_set.specs.declared.breach.Item.{Item}
use Rattle.layout_set.specs.declared.breach.Item.TheVariants.{Whole, Def, Static, Func}
use Rattle.layout_set.specs.declared.breach.CheckErr.{CheckErr}
use Rattle.layout_set.specs.declared.breach.CheckErr.TheVariants.{Breach, Memory}
use Rattle.layout_set.specs.declared.set.Set.{Set}
use Rattle.layout_set.specs.declared.set.TypeDef.{TypeDef}
use Rattle.std.specs.List.{All, HoldsAt}
use Rattle.layout_set.specs.FirstBreach.{IsItem, Precedes, Law, Numbered, Holds, Fails, IsFirstBreach, AllHold, Checked, FailsAt, either, law_of, named}
use Rattle.layout_set.specs.Found.{IsFirst, Found, InOrder, parts, earlier}

-- what holds below i, and of i, holds below i + 1
pub more_below : (P : ℕ → Type 0) (i : ℕ) → ((j : ℕ) → j < i → P j) → P i → (j : ℕ) → j < i + 1 → P j
more_below P i all one j h = elim (cases_lt j i) as (λ _. P j) [
  | inl l ↦ all j l
  | inr g ↦ subst P (let e : i ≡ j = omega (arith, h, g) in e) one
]

fails : (set : Set) (n : ℕ) (law : Law) (at : Item) → IsItem set at → (law at → ⊥) → ((x : Item) → IsItem set x → Precedes x at → law x) → Found set n law (Err (Breach n (named at)))
fails set n law at is broken earlier = (refl, (at, (record { is = is; broken = broken; earlier = earlier }, refl)))

-- a law, from what is found of the whole, of types, of statics and of functions
pub one_law : (set : Set) (n : ℕ) (law : Law) (whole : Bool) (def fixed func : Option ℕ) → Decides whole (law Whole) → IsFirst (λ i. law (Def i)) (length set.types) def → IsFirst (λ i. law (Static i)) (length set.statics) fixed → IsFirst (λ i. law (Func i)) (length set.funcs) func → Found set n law (parts n whole def fixed func)
one_law set n law false def fixed func w d s f = fails set n law Whole tt (λ l. elim (let f : ⊥ = grind (arith, w.1 l) in f) [ ]) before
  where
    before : (x : Item) → IsItem set x → Precedes x Whole → law x
    before Whole is h = elim h [ ]
    before (Def i) is h = elim h [ ]
    before (Static i) is h = elim h [ ]
    before (Func i) is h = elim h [ ]
one_law set n law true (Some i) fixed func w d s f = fails set n law (Def i) d.0 d.1.0 before
  where
    before : (x : Item) → IsItem set x → Precedes x (Def i) → law x
    before Whole is h = w.0 refl
    before (Def j) is h = d.1.1 j h
    before (Static j) is h = elim h [ ]
    before (Func j) is h = elim h [ ]
one_law set n law true None (Some i) func w d s f = fails set n law (Static i) s.0 s.1.0 before
  where
    before : (x : Item) → IsItem set x → Precedes x (Static i) → law x
    before Whole is h = w.0 refl
    before (Def j) is h = d j is
    before (Static j) is h = s.1.1 j h
    before (Func j) is h = elim h [ ]
one_law set n law true None None (Some i) w d s f = fails set n law (Func i) f.0 f.1.0 before
  where
    before : (x : Item) → IsItem set x → Precedes x (Func i) → law x
    before Whole is h = w.0 refl
    before (Def j) is h = d j is
    before (Static j) is h = s j is
    before (Func j) is h = f.1.1 j h
one_law set n law true None None None w d s f = all
  where
    all : (x : Item) → IsItem set x → law x
    all Whole is = w.0 refl
    all (Def j) is = d j is
    all (Static j) is = s j is
    all (Func j) is = f j is

-- a law of types alone
pub of_types : (set : Set) (n : ℕ) (law : Law) (def : Option ℕ) → law Whole → ((i : ℕ) → law (Static i)) → ((i : ℕ) → law (Func i)) → IsFirst (λ i. law (Def i)) (length set.types) def → Found set n law (parts n true def None None)
of_types set n law def w s f d = one_law set n law true def None None ((λ _. w), λ _. refl) d (λ i _. s i) (λ i _. f i)

-- a law of functions alone
pub of_funcs : (set : Set) (n : ℕ) (law : Law) (func : Option ℕ) → law Whole → ((i : ℕ) → law (Def i)) → ((i : ℕ) → law (Static i)) → IsFirst (λ i. law (Func i)) (length set.funcs) func → Found set n law (parts n true None None func)
of_funcs set n law func w d s f = one_law set n law true None None func ((λ _. w), λ _. refl) (λ i _. d i) (λ i _. s i) f

pub go_on : (set : Set) (n : ℕ) (law : Law) (laws : List Numbered) (r : Result (Unit {0}) CheckErr) → Holds set law → InOrder set laws r → InOrder set (record { number = n; law = law } ∷ laws) r
go_on set n law laws (Ok t) h rest = (h, rest)
go_on set n law laws (Err (Breach m at)) h rest = inr (h, rest)
go_on set n law laws (Err Memory) h rest = tt

pub stop : (set : Set) (n : ℕ) (law : Law) (laws : List Numbered) (e : CheckErr) → Found set n law (Err e) → InOrder set (record { number = n; law = law } ∷ laws) (Err e)
stop set n law laws (Breach m at) f = inl f
stop set n law laws Memory f = tt

-- the last law
pub last : (set : Set) (n : ℕ) (law : Law) (r : Result (Unit {0}) CheckErr) → Found set n law r → InOrder set (record { number = n; law = law } ∷ []) r
last set n law (Ok t) f = (f, tt)
last set n law (Err (Breach m at)) f = inl f
last set n law (Err Memory) f = tt

-- a row that fails, before another
pub first_row : (set : Set) (xs ys : List Numbered) (e : CheckErr) → InOrder set xs (Err e) → InOrder set (xs ++ ys) (Err e)
first_row set [] ys (Breach m at) c = elim c [ ]
first_row set [] [] Memory c = tt
first_row set [] (y ∷ ys) Memory c = tt
first_row set (x ∷ xs) ys (Breach m at) (inl f) = inl f
first_row set (x ∷ xs) ys (Breach m at) (inr (h, c)) = inr (h, first_row set xs ys (Breach m at) c)
first_row set (x ∷ xs) ys Memory c = tt

-- a row that holds, before another
pub both_rows : (set : Set) (xs ys : List Numbered) (r : Result (Unit {0}) CheckErr) → InOrder set xs (Ok tt) → InOrder set ys r → InOrder set (xs ++ ys) r
both_rows set [] ys r c d = d
both_rows set (x ∷ xs) ys (Ok t) c d = (c.0, both_rows set xs ys (Ok t) c.1 d)
both_rows set (x ∷ xs) ys (Err (Breach m at)) c d = inr (c.0, both_rows set xs ys (Err (Breach m at)) c.1 d)
both_rows set (x ∷ xs) ys (Err Memory) c d = tt

-- what a law says of each type holds of all
pub each_type : (set : Set) (P : TypeDef → Type 0) (law : Law) → ((i : ℕ) → law (Def i) → HoldsAt P set.types i) → Holds set law → All P set.types
each_type set P law says h = λ i d l. says i (h (Def i) l) d

by_number : (set : Set) (b : Bool) (here there : Law) → Holds set here → Holds set there → Holds set (either b here there)
by_number set true here there h t = h
by_number set false here there h t = t

all_hold : (set : Set) (laws : List Numbered) → InOrder set laws (Ok tt) → AllHold set laws
all_hold set [] c n = λ x is. tt
all_hold set (l ∷ laws) c n = by_number set (l.number == n) l.law (law_of laws n) c.0 (all_hold set laws c.1 n)

-- the numbers of a row rise, from this one on
abbrev pub Rises : ℕ → List Numbered → Type 0
Rises n [] = Unit {0}
Rises n (l ∷ laws) = (n ≤ l.number) × Rises (l.number + 1) laws

-- the law that a row has at its start
here_is : (l : Numbered) (laws : List Numbered) (n : ℕ) → n ≡ l.number → l.law ≡ law_of (l ∷ laws) n
here_is l laws n e = sym (ap (λ b. either b l.law (law_of laws n)) (eq-eqb l.number n (sym e)))

-- the law that it has further on
pub there_is : (l : Numbered) (laws : List Numbered) (n : ℕ) → (l.number ≡ n → ⊥) → law_of laws n ≡ law_of (l ∷ laws) n
there_is l laws n e = sym (ap (λ b. either b l.law (law_of laws n)) (ne_eqb l.number n e))

-- below its numbers a row says nothing
none_below : (set : Set) (k : ℕ) (laws : List Numbered) → Rises k laws → (n : ℕ) → n < k → Holds set (law_of laws n)
none_below set k [] r n h = λ x is. tt
none_below set k (l ∷ laws) r n h =
    let e : l.number ≡ n → ⊥ = λ e. let a = r.0 in omega (arith, a, e, h) in
    subst (Holds set) (there_is l laws n e) (none_below set (l.number + 1) laws r.1 n (let a = r.0 in omega (arith, a, h)))

-- what a row in order says of its first breach, and that the breach is no lower than the row
breach_says : (set : Set) (m : ℕ) (at : Item) (k : ℕ) (laws : List Numbered) → Rises k laws → InOrder set laws (Err (Breach m at)) → (k ≤ m) × IsFirstBreach set laws m at
breach_says set m at k [] r c = elim c [ ]
breach_says set m at k (l ∷ laws) r (inl f) = (
  (let a = r.0 in let e = f.0 in omega (arith, a, e)),
  record { lower = below; fails = subst (λ law. FailsAt set law at) (here_is l laws m f.0) f.1 },
)
  where
    below : (n : ℕ) → n < m → Holds set (law_of (l ∷ laws) n)
    below n h =
        let e : l.number ≡ n → ⊥ = λ e. let a = f.0 in omega (arith, a, e, h) in
        subst (Holds set) (there_is l laws n e) (none_below set (l.number + 1) laws r.1 n (let a = f.0 in omega (arith, a, h)))
breach_says set m at k (l ∷ laws) r (inr (h, c)) =
    let s = breach_says set m at (l.number + 1) laws r.1 c in
    let e : l.number ≡ m → ⊥ = λ e. let a = s.0 in omega (arith, a, e) in (
      (let a = s.0 in let b = r.0 in omega (arith, a, b)),
      record {
        lower = λ n i. by_number set (l.number == n) l.law (law_of laws n) h (s.1.lower n i);
        fails = subst (λ law. FailsAt set law at) (there_is l laws m e) s.1.fails;
      },
    )

-- The row as a whole, from law by law.
pub checks_say : (set : Set) (laws : List Numbered) (r : Result (Unit {0}) CheckErr) → Rises 0 laws → InOrder set laws r → Checked set laws r
checks_say set laws (Ok t) rises c = all_hold set laws c
checks_say set laws (Err Memory) rises c = tt
checks_say set laws (Err (Breach m at)) rises c = (breach_says set m at 0 laws rises c).1

order : (a b : Item) → Precedes a b ⊎ ((a ≡ b) ⊎ Precedes b a)
order Whole Whole = inr (inl refl)
order Whole (Def j) = inl tt
order Whole (Static j) = inl tt
order Whole (Func j) = inl tt
order (Def i) Whole = inr (inr tt)
order (Def i) (Def j) = elim (cases_order i j) as (λ _. Precedes (Def i) (Def j) ⊎ ((Def i ≡ Def j) ⊎ Precedes (Def j) (Def i))) [
  | inl e ↦ inr (inl (ap Def e))
  | inr w ↦ elim w as (λ _. Precedes (Def i) (Def j) ⊎ ((Def i ≡ Def j) ⊎ Precedes (Def j) (Def i))) [ inl l ↦ inl l | inr g ↦ inr (inr g) ]
]
order (Def i) (Static j) = inl tt
order (Def i) (Func j) = inl tt
order (Static i) Whole = inr (inr tt)
order (Static i) (Def j) = inr (inr tt)
order (Static i) (Static j) = elim (cases_order i j) as (λ _. Precedes (Static i) (Static j) ⊎ ((Static i ≡ Static j) ⊎ Precedes (Static j) (Static i))) [
  | inl e ↦ inr (inl (ap Static e))
  | inr w ↦ elim w as (λ _. Precedes (Static i) (Static j) ⊎ ((Static i ≡ Static j) ⊎ Precedes (Static j) (Static i))) [ inl l ↦ inl l | inr g ↦ inr (inr g) ]
]
order (Static i) (Func j) = inl tt
order (Func i) Whole = inr (inr tt)
order (Func i) (Def j) = inr (inr tt)
order (Func i) (Static j) = inr (inr tt)
order (Func i) (Func j) = elim (cases_order i j) as (λ _. Precedes (Func i) (Func j) ⊎ ((Func i ≡ Func j) ⊎ Precedes (Func j) (Func i))) [
  | inl e ↦ inr (inl (ap Func e))
  | inr w ↦ elim w as (λ _. Precedes (Func i) (Func j) ⊎ ((Func i ≡ Func j) ⊎ Precedes (Func j) (Func i))) [ inl l ↦ inl l | inr g ↦ inr (inr g) ]
]

-- a law fails first at one item only
pub one_item : (set : Set) (law : Law) (a b : Item) → Fails set law a → Fails set law b → a ≡ b
one_item set law a b x y = elim (order a b) as (λ _. a ≡ b) [
  | inl l ↦ elim (x.broken (y.earlier a x.is l)) [ ]
  | inr w ↦ elim w as (λ _. a ≡ b) [ inl e ↦ e | inr g ↦ elim (y.broken (x.earlier b y.is g)) [ ] ]
]

-- the lower of two breaches would be told first
not_lower : (set : Set) (laws : List Numbered) (m n : ℕ) (a b : Item) → IsFirstBreach set laws m a → IsFirstBreach set laws n b → m < n → ⊥
not_lower set laws m n a b x y h = let f = x.fails in f.1.0.broken (y.lower m h f.0 f.1.0.is)

-- one law fails first, at one item
pub one_breach : (set : Set) (laws : List Numbered) (m n : ℕ) (a b : Item) → IsFirstBreach set laws m a → IsFirstBreach set laws n b → (m ≡ n) × (a ≡ b)
one_breach set laws m n a b x y = elim (cases_order m n) as (λ _. (m ≡ n) × (a ≡ b)) [
  | inl e ↦ (e, same e)
  | inr w ↦ elim (elim w as (λ _. ⊥) [ inl l ↦ not_lower set laws m n a b x y l | inr g ↦ not_lower set laws n m b a y x g ]) [ ]
]
  where
    same : m ≡ n → a ≡ b
    same e =
        let f = x.fails in
        let g = subst (λ k. FailsAt set (law_of laws k) b) (sym e) y.fails in
        f.1.1 ∙ ap named (one_item set (law_of laws m) f.0 g.0 f.1.0 g.1.0) ∙ sym g.1.1

-- the first place where one of two sentences fails
pub first_of_both : (P Q : ℕ → Type 0) (n : ℕ) (a b : Option ℕ) → IsFirst P n a → IsFirst Q n b → IsFirst (λ i. P i × Q i) n (earlier a b)
first_of_both P Q n None None f g = λ i h. (f i h, g i h)
first_of_both P Q n None (Some j) f g = (g.0, ((λ s. g.1.0 s.1), λ k h. (f k (let l = g.0 in omega (arith, h, l)), g.1.1 k h)))
first_of_both P Q n (Some i) None f g = (f.0, ((λ s. f.1.0 s.0), λ k h. (f.1.1 k h, g k (let l = f.0 in omega (arith, h, l)))))
first_of_both P Q n (Some i) (Some j) f g =
    ((let l = f.0 in omega (arith, l)), (broken, λ k h. (f.1.1 k (omega (arith, h)), g.1.1 k (omega (arith, h)))))
  where
    broken : P (min i j) × Q (min i j) → ⊥
    broken s = elim (cases_lt j i) as (λ _. ⊥) [
      | inl l ↦ g.1.0 (subst Q (let e : min i j ≡ j = omega (arith, l) in e) s.1)
      | inr h ↦ f.1.0 (subst P (let e : min i j ≡ i = omega (arith, h) in e) s.0)
    ]
