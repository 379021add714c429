use Rattle.std.proofs.Common.{◌≡◌, ◌-◌, ◌^◌, min, take}
use Rattle.std.specs.List.{sum_by}
use Rattle.layout_set.specs.Counts.{func_ranges}
use Rattle.layout_func_laws.proofs.law_14.range_count.Given as goal

abbrev pub invariant-loop-func : goal.invariant-loop-func
invariant-loop-func l = l.count ≡ min (sum_by func_ranges (take l.func-index l.funcs)) (2 ^ 128 - 1)
