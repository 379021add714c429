use Rattle.std.proofs.Common.{◌≡◌, ◌-◌, ◌^◌, min, take}
use Rattle.std.specs.List.{sum_by}
use Rattle.layout_set.specs.Counts.{entry_ranges}
use Rattle.layout_func_laws.proofs.law_14.count_ranges.Given as goal

abbrev pub invariant-loop-entry : goal.invariant-loop-entry
invariant-loop-entry l = l.count ≡ min (sum_by entry_ranges (take l.entry-index l.entries)) (2 ^ 128 - 1)
