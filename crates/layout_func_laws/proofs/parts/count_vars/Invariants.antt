use Rattle.std.proofs.Common.{◌≡◌, ◌-◌, ◌^◌, min, take}
use Rattle.std.specs.List.{sum_by}
use Rattle.layout_set.specs.Counts.{var_parts}
use Rattle.layout_func_laws.proofs.parts.count_vars.Given as goal

abbrev pub invariant-loop-var : goal.invariant-loop-var
invariant-loop-var l = l.count ≡ min (sum_by var_parts (take l.var-index l.vars)) (2 ^ 64 - 1)
