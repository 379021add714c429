-- Law 12: the scopes of a function nest, each with one zone inside that of the scope around it.
use Rattle.std.specs.Prelude.{◌≡◌, ◌≢◌, ℕ, zero, suc, ◌+◌, ◌<◌, ◌≤◌, List, [], ◌∷◌, length, map, slice_index_or}
use Rattle.std.specs.List.{All, HoldsAt}
use Rattle.layout_set.specs.declared.breach.Item.TheVariants.{Func as OfFunc}
use Rattle.layout_set.specs.declared.func.Func.{Func}
use Rattle.layout_set.specs.declared.func.Scope.{Scope}
use Rattle.layout_set.specs.declared.func.Zone.{Zone}
use Rattle.layout_set.specs.declared.set.Set.{Set}
use Rattle.layout_set.specs.FirstBreach.{Law}

-- how deep the scope at a place is
abbrev pub depth_at : List Scope → ℕ → ℕ
depth_at scopes i = slice_index_or (map (λ s. s.depth) scopes) i 0

-- the zones of the scope at a place
abbrev pub zones_at : List Scope → ℕ → List Zone
zones_at scopes i = slice_index_or (map (λ s. s.zones) scopes) i []

-- the first scope is the body, and each other is at most one deeper than the one before
abbrev pub HasDepth : List Scope → ℕ → Type 0
HasDepth scopes zero = depth_at scopes 0 ≡ 0
HasDepth scopes (suc i) = (1 ≤ depth_at scopes (suc i)) × ((depth_at scopes (suc i) ≤ 200) × (depth_at scopes (suc i) ≤ depth_at scopes i + 1))

-- the scope at j is the one around the scope at i: the last before it that is less deep
pub record IsAround (scopes : List Scope) (j i : ℕ) : Type 0 where
  pub before : j < i
  pub outer : depth_at scopes j < depth_at scopes i
  pub last : (k : ℕ) → j < k → k < i → depth_at scopes i ≤ depth_at scopes k

abbrev pub IsInside : Zone → Zone → Type 0
IsInside outer inner = (outer.lo ≤ inner.lo) × (inner.hi ≤ outer.hi)

-- each of the inner zones lies inside each of the outer ones
abbrev pub AreInside : List Zone → List Zone → Type 0
AreInside outer inner = All (λ z. All (λ o. IsInside o z) outer) inner

pub record HasOneZone (scope : Scope) : Type 0 where
  pub zone : Zone
  pub only : scope.zones ≡ zone ∷ []
  pub some : zone.lo < zone.hi

-- the scopes of a function, in preorder
pub record AreNested (scopes : List Scope) : Type 0 where
  pub body : scopes ≢ []
  pub depths : (i : ℕ) → i < length scopes → HasDepth scopes i
  pub zones : All HasOneZone scopes
  pub inside : (j i : ℕ) → i < length scopes → IsAround scopes j i → AreInside (zones_at scopes j) (zones_at scopes i)

abbrev pub HasNestedScopes : Func → Type 0
HasNestedScopes f = AreNested f.scopes

abbrev pub Law12 : Set → Law
Law12 set (OfFunc i) = HoldsAt HasNestedScopes set.funcs i
Law12 set _ = Unit {0}
