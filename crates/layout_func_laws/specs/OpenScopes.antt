-- The scopes that are open where a scope stands, from the body inwards. Private: `Law12` says what they come to.
use Rattle.std.specs.Prelude.{◌≡◌, ℕ, zero, suc, ◌+◌, ◌-◌, ◌<◌, ◌≤◌, List, [], ◌∷◌, length, slice_index_or}
use Rattle.std.specs.List.{All, HoldsAt}
use Rattle.layout_set.specs.declared.func.Scope.{Scope}
use Rattle.layout_set.specs.declared.func.Zone.{Zone}
use Rattle.layout_set.specs.Law12.{depth_at, zones_at, HasDepth, HasOneZone, IsAround, IsInside, AreInside}

-- how many scopes are open before the scope at a place
abbrev pub open_before : List Scope → ℕ → ℕ
open_before scopes zero = 0
open_before scopes (suc i) = depth_at scopes i + 1

-- before the scope at i, the open scope of this depth has this zone: those after it are deeper
pub record IsOpen (scopes : List Scope) (i depth : ℕ) (zone : Zone) : Type 0 where
  pub at : ℕ
  pub before : at < i
  pub own : depth_at scopes at ≡ depth
  pub deeper : (k : ℕ) → at < k → k < i → depth < depth_at scopes k
  pub only : zones_at scopes at ≡ zone ∷ []

-- these are the zones of the scopes that are open before the scope at i, the body's first
pub record AreOpen (scopes : List Scope) (i : ℕ) (open_zones : List Zone) : Type 0 where
  pub count : length open_zones ≡ open_before scopes i
  pub each : (depth : ℕ) (d : Zone) → depth < length open_zones → IsOpen scopes i depth (slice_index_or open_zones depth d)

-- a scope may be so deep where so many are open
abbrev pub MayBeSoDeep : ℕ → ℕ → Type 0
MayBeSoDeep count depth = (depth ≤ count) × ((depth ≤ 200) × (0 < count → 0 < depth))

-- the zones lie inside that of the open scope around them
abbrev pub LieInOuter : List Zone → ℕ → List Zone → Type 0
LieInOuter open_zones depth zones = 0 < depth → HoldsAt (λ o. All (IsInside o) zones) open_zones (depth - 1)

-- the scope may stand where these are open
abbrev pub FitsOpen : List Zone → Scope → Type 0
FitsOpen open_zones s = MayBeSoDeep (length open_zones) s.depth × (HasOneZone s × LieInOuter open_zones s.depth s.zones)

-- the scope at a place nests in those before it
pub record NestsAt (scopes : List Scope) (i : ℕ) : Type 0 where
  pub depth : HasDepth scopes i
  pub zones : HoldsAt HasOneZone scopes i
  pub inside : (j : ℕ) → IsAround scopes j i → AreInside (zones_at scopes j) (zones_at scopes i)
