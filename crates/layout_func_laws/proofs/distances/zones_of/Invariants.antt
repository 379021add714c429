use Rattle.std.proofs.Common.{◌≡◌, ◌++◌, drop}
use Rattle.std.specs.List.{flat_map}
use Rattle.layout_set.specs.Law14.{zones_of}
use Rattle.layout_func_laws.proofs.distances.zones_of.Given as goal

abbrev pub invariant-loop-func : goal.invariant-loop-func
invariant-loop-func l = l.found.items ++ flat_map zones_of (drop l.func-index l.funcs) ≡ flat_map zones_of l.funcs
