use Rattle.std.proofs.Common.{◌≡◌, ◌-◌, ◌^◌, min, take}
use Rattle.std.specs.List.{sum_by}
use Rattle.layout_set.specs.Counts.{scope_vars}
use Rattle.layout_func_laws.proofs.law_14.count_vars.Given as goal

abbrev pub invariant-loop-scope : goal.invariant-loop-scope
invariant-loop-scope l = l.count ≡ min (sum_by scope_vars (take l.scope-index l.scopes)) (2 ^ 64 - 1)
