use Rattle.std.proofs.Common.{◌≡◌, ◌-◌, ◌^◌, ◌≤◌, min, drop}
use Rattle.layout_set.specs.Law14.{lowest}
use Rattle.layout_func_laws.proofs.distances.lowest.Given as goal

abbrev pub invariant-loop-place : goal.invariant-loop-place
invariant-loop-place l = (l.low ≤ 2 ^ 64 - 1) × (min l.low (lowest (drop l.place-index l.places)) ≡ lowest l.places)
