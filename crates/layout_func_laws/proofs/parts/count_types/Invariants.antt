use Rattle.std.proofs.Common.{◌≡◌, ◌-◌, ◌^◌, min, take}
use Rattle.std.specs.List.{sum_by}
use Rattle.layout_set.specs.Counts.{parts_of}
use Rattle.layout_func_laws.proofs.parts.count_types.Given as goal

abbrev pub invariant-loop-def : goal.invariant-loop-def
invariant-loop-def l = l.count ≡ min (sum_by parts_of (take l.def-index l.types)) (2 ^ 64 - 1)
