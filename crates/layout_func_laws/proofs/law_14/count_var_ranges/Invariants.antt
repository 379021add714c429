use Rattle.std.proofs.Common.{◌≡◌, ◌-◌, ◌^◌, min, take}
use Rattle.std.specs.List.{sum_by}
use Rattle.layout_set.specs.Counts.{var_ranges}
use Rattle.layout_func_laws.proofs.law_14.count_var_ranges.Given as goal

abbrev pub invariant-loop-var : goal.invariant-loop-var
invariant-loop-var l = l.count ≡ min (sum_by var_ranges (take l.var-index l.vars)) (2 ^ 128 - 1)
