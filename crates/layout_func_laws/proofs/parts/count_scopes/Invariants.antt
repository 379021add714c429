use Rattle.std.proofs.Common.{◌≡◌, ◌-◌, ◌^◌, min, take}
use Rattle.std.specs.List.{sum_by}
use Rattle.layout_set.specs.Counts.{scope_parts}
use Rattle.layout_func_laws.proofs.parts.count_scopes.Given as goal

abbrev pub invariant-loop-scope : goal.invariant-loop-scope
invariant-loop-scope l = l.count ≡ min (sum_by scope_parts (take l.scope-index l.scopes)) (2 ^ 64 - 1)
