use Rattle.std.proofs.Common.{◌≡◌, ◌-◌, ◌^◌, ◌≤◌, min, map, drop}
use Rattle.layout_set.specs.Law14.{lowest}
use Rattle.layout_func_laws.proofs.distances.lowest_begin.Given as goal

abbrev pub invariant-loop-zone : goal.invariant-loop-zone
invariant-loop-zone l = (l.low ≤ 2 ^ 64 - 1) × (min l.low (lowest (map (λ z. z.lo) (drop l.zone-index l.zones))) ≡ lowest (map (λ z. z.lo) l.zones))
