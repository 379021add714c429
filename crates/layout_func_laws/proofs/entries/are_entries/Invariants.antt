use Rattle.std.specs.List.{AllWithin}
use Rattle.layout_set.specs.Law13.{IsEntry}
use Rattle.layout_func_laws.proofs.entries.are_entries.Given as goal

abbrev pub invariant-loop-entry : goal.invariant-loop-entry
invariant-loop-entry l = AllWithin (IsEntry l.bytes l.zones) l.entries 0 l.entry-index
