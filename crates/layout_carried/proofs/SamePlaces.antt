-- A variable whose entry is carried has the same place, and another has none.
use Rattle.std.proofs.Common.{◌≡◌, ◌∙◌, refl, sym, ap, subst, ℕ, ◌<◌, ◌≤◌, nat_le, nat_lt, ◌&&◌, Bool, true, false, cond, List, [], ◌∷◌, Some, None, filter, All, option_map, arith, ltb-true}
use Rattle.std.proofs.lemmas.Bool.{lt-leb}
use Rattle.std.proofs.lemmas.List.Elements.{All-head, All-tail, All-contains}
use Rattle.snapshot_file.specs.declared.snapshot.Snapshot.{Snapshot}
use Rattle.layout_set.specs.declared.breach.Item.TheVariants.{Func as OfFunc}
use Rattle.layout_set.specs.declared.func.Entry.{Entry}
use Rattle.layout_set.specs.declared.func.Var.{Var}
use Rattle.layout_set.specs.declared.func.Zone.{Zone}
use Rattle.layout_set.specs.declared.set.Set.{Set}
use Rattle.layout_carried.specs.Carried.{entry_carries}
use Rattle.layout_set.specs.FirstBreach.{Holds}
use Rattle.layout_set.specs.Law13.{IsEntry, Rise, IsPlaced, HasPlacedVars, HasPlacedScopes, Law13}
use Rattle.layout_values.specs.Places.{covers, entry_at, loc_items, place_of}
use Rattle.layout_carried.specs.ShowsSame.{carries_if, is_covered, IsVarOf}

true_false : true ≡ false → ⊥
true_false e = cc

-- the entries that are carried have the same first one for the program counter, if it is carried
kept : (pc : ℕ) (entries : List Entry) → is_covered pc entries ≡ true → entry_at pc (filter entry_carries entries) ≡ entry_at pc entries
kept pc [] h = refl
kept pc (e ∷ entries) h = step (covers pc e) (entry_carries e) refl refl (kept pc entries) h
  where
    step : (b k : Bool) → covers pc e ≡ b → entry_carries e ≡ k
        → (is_covered pc entries ≡ true → entry_at pc (filter entry_carries entries) ≡ entry_at pc entries)
        → carries_if (cond b (Some e) (entry_at pc entries)) ≡ true
        → entry_at pc (cond k (e ∷ filter entry_carries entries) (filter entry_carries entries)) ≡ cond b (Some e) (entry_at pc entries)
    step true true b k rest h = rw b refl
    step true false b k rest h = absurd (true_false (sym h ∙ k))
    step false true b k rest h = rw b (rest h)
    step false false b k rest h = rest h

-- the entries follow one another from here on, and each has some addresses
abbrev Follow : ℕ → List Entry → Type 0
Follow n [] = Unit {0}
Follow n (e ∷ entries) = (n ≤ e.lo) × (e.lo < e.hi) × Follow e.hi entries

follow : (bytes : ℕ) (zones : List Zone) (n : ℕ) (e : Entry) (entries : List Entry) → n ≤ e.lo → Rise (e ∷ entries)
    → All (IsEntry bytes zones) (e ∷ entries) → Follow n (e ∷ entries)
follow bytes zones n e [] h up all = (h, (All-head (IsEntry bytes zones) e [] all).some, tt)
follow bytes zones n e (f ∷ entries) h up all = (
  h,
  (All-head (IsEntry bytes zones) e (f ∷ entries) all).some,
  follow bytes zones e.hi f entries up.0.0 up.1 (All-tail (IsEntry bytes zones) e (f ∷ entries) all),
)

from_start : (bytes : ℕ) (zones : List Zone) (entries : List Entry) → Rise entries → All (IsEntry bytes zones) entries → Follow 0 entries
from_start bytes zones [] up all = tt
from_start bytes zones (e ∷ entries) up all = follow bytes zones 0 e entries (omega arith) up all

before : (pc : ℕ) (e : Entry) → pc < e.lo → covers pc e ≡ false
before pc e h = rw (lt-leb e.lo pc h) refl

-- none of those that begin past the program counter tells of it
past : (pc n : ℕ) (entries : List Entry) → pc < n → Follow n entries → entry_at pc (filter entry_carries entries) ≡ None
past pc n [] l f = refl
past pc n (e ∷ entries) l f = step (entry_carries e) (past pc e.hi entries (let a = f.0 in let b = f.1 in omega (arith, l, a, b)) f.2)
  where
    step : (k : Bool) → entry_at pc (filter entry_carries entries) ≡ None
        → entry_at pc (cond k (e ∷ filter entry_carries entries) (filter entry_carries entries)) ≡ None
    step true rest = rw (before pc e (let a = f.0 in omega (arith, l, a))) rest
    step false rest = rest

both_last : (a b : Bool) → (a && b) ≡ true → b ≡ true
both_last true b h = h
both_last false b h = absurd (true_false (sym h))

-- where the first entry for the program counter is not carried, none is
lost : (pc n : ℕ) (entries : List Entry) → Follow n entries → is_covered pc entries ≡ false → entry_at pc (filter entry_carries entries) ≡ None
lost pc n [] f h = absurd (true_false h)
lost pc n (e ∷ entries) f h = step (covers pc e) (entry_carries e) refl refl (lost pc e.hi entries f.2) h
  where
    step : (b k : Bool) → covers pc e ≡ b → entry_carries e ≡ k
        → (is_covered pc entries ≡ false → entry_at pc (filter entry_carries entries) ≡ None)
        → carries_if (cond b (Some e) (entry_at pc entries)) ≡ false
        → entry_at pc (cond k (e ∷ filter entry_carries entries) (filter entry_carries entries)) ≡ None
    step true true b k rest h = absurd (true_false (sym k ∙ h))
    step true false b k rest h = past pc e.hi entries (ltb-true pc e.hi (both_last (nat_le e.lo pc) (nat_lt pc e.hi) b)) f.2
    step false true b k rest h = rw b (rest h)
    step false false b k rest h = rest h

pub same_place : (ptr : ℕ) (snap : Snapshot) (entries : List Entry) (len : ℕ) → is_covered snap.pc entries ≡ true
    → place_of ptr snap (filter entry_carries entries) len ≡ place_of ptr snap entries len
same_place ptr snap entries len h = ap (option_map (λ e. loc_items ptr snap e.loc len)) (kept snap.pc entries h)

placed : (set : Set) (v : Var) → Holds set (Law13 set) → (is : IsVarOf set v) → IsPlaced set.target.ptr set.types is.scope.zones v
placed set v law is =
    let f : HasPlacedScopes set.target.ptr set.types is.func =
    subst (HasPlacedScopes set.target.ptr set.types) is.func_in.2 (law (OfFunc is.func_in.0) is.func_in.1 is.func) in
    let s : HasPlacedVars set.target.ptr set.types is.scope =
    All-contains (HasPlacedVars set.target.ptr set.types) is.func.scopes is.scope f is.scope_in in
    All-contains (IsPlaced set.target.ptr set.types is.scope.zones) is.scope.vars v s is.var_in

-- where law 13 holds, another variable has no place
pub no_place : (set : Set) (ptr : ℕ) (snap : Snapshot) (v : Var) (len : ℕ) → Holds set (Law13 set) → IsVarOf set v → is_covered snap.pc v.entries ≡ false
    → place_of ptr snap (filter entry_carries v.entries) len ≡ None
no_place set ptr snap v len law is h =
    let p = placed set v law is in
    ap (option_map (λ e. loc_items ptr snap e.loc len)) (lost snap.pc 0 v.entries (from_start _ is.scope.zones v.entries p.1 p.0) h)
