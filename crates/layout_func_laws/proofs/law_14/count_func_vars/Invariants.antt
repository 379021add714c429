use Rattle.std.proofs.Common.{◌≡◌, ◌-◌, ◌^◌, min, take}
use Rattle.std.specs.List.{sum_by}
use Rattle.layout_set.specs.Counts.{func_vars}
use Rattle.layout_func_laws.proofs.law_14.count_func_vars.Given as goal

abbrev pub invariant-loop-func : goal.invariant-loop-func
invariant-loop-func l = l.count ≡ min (sum_by func_vars (take l.func-index l.funcs)) (2 ^ 64 - 1)
