use Rattle.std.proofs.Common.{◌≡◌, ◌++◌, take}
use Rattle.layout_func_laws.proofs.distances.add_zones.Given as goal

abbrev pub invariant-loop-zone : goal.invariant-loop-zone
invariant-loop-zone l = l.found.items ≡ l.initial.found.items ++ take l.zone-index l.zones
