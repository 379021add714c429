-- Law 14: statics have addresses, all close together, as code is, and the set is not too large.
use Rattle.std.specs.Prelude.{ℕ, ◌+◌, ◌-◌, ◌^◌, ◌≤◌, min, List, [], ◌∷◌, ◌++◌, length, map, IsSome}
use Rattle.std.specs.List.{All, HoldsAt, filter_map, flat_map}
use Rattle.layout_set.specs.declared.breach.Item.TheVariants.{Whole, Def, Static, Func as OfFunc}
use Rattle.layout_set.specs.declared.func.Func.{Func}
use Rattle.layout_set.specs.declared.func.Zone.{Zone}
use Rattle.layout_set.specs.declared.set.Set.{Set}
use Rattle.layout_set.specs.declared.set.Static.{Static as FixedValue}
use Rattle.layout_set.specs.Counts.{part_count, variable_count, range_count}
use Rattle.layout_set.specs.FirstBreach.{Law}

-- the addresses that are given
abbrev pub addresses : List FixedValue → List ℕ
addresses statics = filter_map (λ s. s.addr) statics

-- the lowest of some addresses, or the last address that there is
abbrev pub lowest : List ℕ → ℕ
lowest [] = 2 ^ 64 - 1
lowest (place ∷ places) = min place (lowest places)

-- each address is at most 2^32 - 1 above the lowest
abbrev pub AreClose : List ℕ → Type 0
AreClose places = All (λ place. place ≤ lowest places + (2 ^ 32 - 1)) places

-- the zones of a function's scopes
abbrev pub zones_of : Func → List Zone
zones_of f = flat_map (λ s. s.zones) f.scopes

-- each zone ends at most 2^32 - 1 past the lowest begin
abbrev pub IsCompact : List Zone → Type 0
IsCompact zones = All (λ z. z.hi ≤ lowest (map (λ z. z.lo) zones) + (2 ^ 32 - 1)) zones

-- 20,000 types, 40,000 parts and 20,000 variables are the most
pub record IsBounded (set : Set) : Type 0 where
  pub types : length set.types ≤ 20000
  pub parts : part_count set ≤ 40000
  pub variables : variable_count set ≤ 20000

-- 1,000,000 ranges are the most
abbrev pub HasFewRanges : Set → Type 0
HasFewRanges set = range_count set ≤ 1000000

-- what is asked of the set as a whole
pub record IsSmall (set : Set) : Type 0 where
  pub counts : IsBounded set
  pub ranges : HasFewRanges set
  pub statics : AreClose (addresses set.statics)
  pub code : IsCompact (flat_map zones_of set.funcs)

abbrev pub HasAddress : FixedValue → Type 0
HasAddress s = IsSome s.addr

abbrev pub Law14 : Set → Law
Law14 set Whole = IsSmall set
Law14 set (Static i) = HoldsAt HasAddress set.statics i
Law14 set _ = Unit {0}
