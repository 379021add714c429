use Rattle.std.proofs.Common.{◌≡◌, ◌-◌, ◌^◌, min, take}
use Rattle.std.specs.List.{sum_by}
use Rattle.layout_set.specs.Counts.{entry_parts}
use Rattle.layout_func_laws.proofs.parts.count_entries.Given as goal

abbrev pub invariant-loop-entry : goal.invariant-loop-entry
invariant-loop-entry l = l.count ≡ min (sum_by entry_parts (take l.entry-index l.entries)) (2 ^ 64 - 1)
