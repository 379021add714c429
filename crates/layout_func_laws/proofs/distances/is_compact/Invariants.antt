use Rattle.std.proofs.Common.{◌+◌, ◌-◌, ◌^◌, ◌≤◌, map}
use Rattle.std.specs.List.{AllWithin}
use Rattle.layout_set.specs.Law14.{lowest}
use Rattle.layout_func_laws.proofs.distances.is_compact.Given as goal

abbrev pub invariant-loop-zone : goal.invariant-loop-zone
invariant-loop-zone l = AllWithin (λ z. z.hi ≤ lowest (map (λ z. z.lo) l.zones) + (2 ^ 32 - 1)) l.zones 0 l.zone-index
