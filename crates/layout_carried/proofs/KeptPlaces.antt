-- What is carried has the same scopes, and those entries that are carried still rise: laws 12 and 13.
use Rattle.std.proofs.Common.{◌≡◌, ◌≢◌, ◌∙◌, refl, sym, ap, subst, ℕ, zero, suc, ◌+◌, ◌<◌, ◌≤◌, Bool, true, false, cond, List, [], ◌∷◌, map, length, filter, arith}
use Rattle.std.specs.Prelude.{slice_index_or}
use Rattle.std.specs.List.{All}
use Rattle.std.proofs.lemmas.List.Elements.{All-head, All-tail, All-filter, All-weaker}
use Rattle.layout_set.specs.declared.breach.Item.TheVariants.{Whole, Def, Static, Func as OfFunc}
use Rattle.layout_set.specs.declared.func.Entry.{Entry}
use Rattle.layout_set.specs.declared.func.Func.{Func}
use Rattle.layout_set.specs.declared.func.Scope.{Scope}
use Rattle.layout_set.specs.declared.func.Var.{Var}
use Rattle.layout_set.specs.declared.func.Zone.{Zone}
use Rattle.layout_set.specs.declared.set.Set.{Set}
use Rattle.layout_set.specs.declared.set.TypeDef.{TypeDef}
use Rattle.layout_set.specs.FirstBreach.{Holds}
use Rattle.layout_set.specs.Law12.{depth_at, zones_at, HasDepth, IsAround, AreInside, HasOneZone, HasNestedScopes, Law12}
use Rattle.layout_set.specs.Law13.{IsEntry, MayFollow, Rise, IsPlaced, HasPlacedVars, HasPlacedScopes, Law13}
use Rattle.layout_set.specs.Sizes.{size}
use Rattle.layout_carried.specs.Carried.{entry_carries, carried_type, carried_var, carried_scope, carried_func, carried}
use Rattle.layout_carried.proofs.Mapped.{place_of_map, holds_map, all_map_more}
use Rattle.layout_carried.proofs.SameTypes.{same_size}
use Rattle.layout_carried.proofs.SameWalks.{map_map}

module _ (ptr : ℕ) (scopes : List Scope) where
  abbrev new : List Scope
  new = map (carried_scope ptr) scopes

  same_depth : (i : ℕ) → depth_at new i ≡ depth_at scopes i
  same_depth i = ap (λ ns. slice_index_or ns i 0) (map_map (carried_scope ptr) (λ (s : Scope). s.depth) (λ (s : Scope). s.depth) (λ s. refl) scopes)

  same_zones : (i : ℕ) → zones_at new i ≡ zones_at scopes i
  same_zones i = ap (λ zs. slice_index_or zs i []) (map_map (carried_scope ptr) (λ (s : Scope). s.zones) (λ (s : Scope). s.zones) (λ s. refl) scopes)

  scope_of_new : (i : ℕ) → i < length new → i < length scopes
  scope_of_new i h = place_of_map (carried_scope ptr) scopes i h

  depth : (i : ℕ) → HasDepth scopes i → HasDepth new i
  depth zero h = same_depth zero ∙ h
  depth (suc i) h = (
    subst (λ n. 1 ≤ n) (sym (same_depth (suc i))) h.0,
    (
      subst (λ n. n ≤ 200) (sym (same_depth (suc i))) h.1.0,
      subst (λ n. depth_at new (suc i) ≤ n + 1) (sym (same_depth i)) (subst (λ n. n ≤ depth_at scopes i + 1) (sym (same_depth (suc i))) h.1.1),
    ),
  )

  around : (j i : ℕ) → IsAround new j i → IsAround scopes j i
  around j i h = record {
    before = h.before;
    outer = subst (λ n. n < depth_at scopes i) (same_depth j) (subst (λ n. depth_at new j < n) (same_depth i) h.outer);
    last = λ k a b. subst (λ n. n ≤ depth_at scopes k) (same_depth i) (subst (λ n. depth_at new i ≤ n) (same_depth k) (h.last k a b));
  }

  inside : (j i : ℕ) → AreInside (zones_at scopes j) (zones_at scopes i) → AreInside (zones_at new j) (zones_at new i)
  inside j i h = subst (λ zs. AreInside zs (zones_at new i)) (sym (same_zones j)) (subst (λ zs. AreInside (zones_at scopes j) zs) (sym (same_zones i)) h)

some_scope : (ptr : ℕ) (scopes : List Scope) → scopes ≢ [] → map (carried_scope ptr) scopes ≢ []
some_scope ptr [] h = h
some_scope ptr (s ∷ scopes) h = λ e. cc

nested : (ptr : ℕ) (f : Func) → HasNestedScopes f → HasNestedScopes (carried_func ptr f)
nested ptr f h = record {
  body = some_scope ptr f.scopes h.body;
  depths = λ i l. depth ptr f.scopes i (h.depths i (scope_of_new ptr f.scopes i l));
  zones = all_map_more (carried_scope ptr) HasOneZone HasOneZone f.scopes (λ s z. record { zone = z.zone; only = z.only; some = z.some }) h.zones;
  inside = λ j i l a. inside ptr f.scopes j i (h.inside j i (scope_of_new ptr f.scopes i l) (around ptr f.scopes j i a));
}

pub law_12 : (set : Set) → Holds set (Law12 set) → Holds (carried set) (Law12 (carried set))
law_12 set h Whole is = tt
law_12 set h (Def i) is = tt
law_12 set h (Static i) is = tt
law_12 set h (OfFunc i) is =
    let p = set.target.ptr in
    let l : i < length set.funcs = place_of_map (carried_func p) set.funcs i is in
    holds_map (carried_func p) HasNestedScopes HasNestedScopes set.funcs i l (nested p) (h (OfFunc i) l)

-- the entry has some addresses
abbrev IsFilled : Entry → Type 0
IsFilled e = e.lo < e.hi

-- The first of these entries may follow the one before. Where it is left out, the next begins past it.
abbrev FirstFollows : Entry → List Entry → Type 0
FirstFollows a [] = Unit {0}
FirstFollows a (b ∷ entries) = MayFollow a b

push : (a : Entry) (entries : List Entry) → FirstFollows a entries → Rise entries → Rise (a ∷ entries)
push a [] f up = tt
push a (b ∷ entries) f up = (f, up)

first_of : (a : Entry) (entries : List Entry) → Rise (a ∷ entries) → FirstFollows a entries
first_of a [] up = tt
first_of a (b ∷ entries) up = up.0

rest_of : (a : Entry) (entries : List Entry) → Rise (a ∷ entries) → Rise entries
rest_of a [] up = tt
rest_of a (b ∷ entries) up = up.1

-- past one that has some addresses
past : (a b c : Entry) → MayFollow a b → IsFilled b → MayFollow b c → MayFollow a c
past a b c f some g = (
  (let x = f.0 in let y = g.0 in omega (arith, x, y, some)),
  λ e. absurd (let x = f.0 in let y = g.0 in let z : ⊥ = omega (arith, x, y, some, e) in z),
)

skip : (a b : Entry) (entries : List Entry) → MayFollow a b → IsFilled b → FirstFollows b entries → FirstFollows a entries
skip a b [] f some g = tt
skip a b (c ∷ entries) f some g = past a b c f some g

-- those that are carried of entries that rise after one
follows : (a : Entry) (entries : List Entry) → FirstFollows a entries → Rise entries → All IsFilled entries → FirstFollows a (filter entry_carries entries)
follows a [] f up some = tt
follows a (b ∷ entries) f up some =
    step (entry_carries b)
    (follows a entries (skip a b entries f (All-head IsFilled b entries some) (first_of b entries up))
    (rest_of b entries up) (All-tail IsFilled b entries some))
  where
    step : (k : Bool) → FirstFollows a (filter entry_carries entries)
        → FirstFollows a (cond k (b ∷ filter entry_carries entries) (filter entry_carries entries))
    step true g = f
    step false g = g

rises : (entries : List Entry) → Rise entries → All IsFilled entries → Rise (filter entry_carries entries)
rises [] up some = tt
rises (a ∷ entries) up some =
    step (entry_carries a) (rises entries (rest_of a entries up) (All-tail IsFilled a entries some))
    (follows a entries (first_of a entries up) (rest_of a entries up) (All-tail IsFilled a entries some))
  where
    step : (k : Bool) → Rise (filter entry_carries entries) → FirstFollows a (filter entry_carries entries)
        → Rise (cond k (a ∷ filter entry_carries entries) (filter entry_carries entries))
    step true up f = push a (filter entry_carries entries) f up
    step false up f = up

module _ (ptr : ℕ) (is : ptr ≡ 8) (types : List TypeDef) where
  placed : (zones : List Zone) (v : Var) → IsPlaced ptr types zones v → IsPlaced ptr (map (carried_type ptr) types) zones (carried_var ptr v)
  placed zones v h = (
    subst (λ n. All (IsEntry n zones) (filter entry_carries v.entries)) (sym (same_size ptr is types v.ty))
        (All-filter entry_carries (IsEntry (size ptr types v.ty) zones) v.entries h.0),
    rises v.entries h.1 (All-weaker (IsEntry (size ptr types v.ty) zones) IsFilled (λ e g. g.some) v.entries h.0),
  )

  placed_vars : (s : Scope) → HasPlacedVars ptr types s → HasPlacedVars ptr (map (carried_type ptr) types) (carried_scope ptr s)
  placed_vars s all =
      all_map_more (carried_var ptr) (IsPlaced ptr (map (carried_type ptr) types) s.zones) (IsPlaced ptr types s.zones) s.vars (placed s.zones) all

  placed_scopes : (f : Func) → HasPlacedScopes ptr types f → HasPlacedScopes ptr (map (carried_type ptr) types) (carried_func ptr f)
  placed_scopes f all = all_map_more (carried_scope ptr) (HasPlacedVars ptr (map (carried_type ptr) types)) (HasPlacedVars ptr types) f.scopes placed_vars all

pub law_13 : (set : Set) → set.target.ptr ≡ 8 → Holds set (Law13 set) → Holds (carried set) (Law13 (carried set))
law_13 set eight h Whole is = tt
law_13 set eight h (Def i) is = tt
law_13 set eight h (Static i) is = tt
law_13 set eight h (OfFunc i) is =
    let p = set.target.ptr in
    let l : i < length set.funcs = place_of_map (carried_func p) set.funcs i is in
    holds_map (carried_func p) (HasPlacedScopes p (map (carried_type p) set.types)) (HasPlacedScopes p set.types) set.funcs i l
    (placed_scopes p eight set.types) (h (OfFunc i) l)
