use Rattle.std.specs.List.{AllWithin}
use Rattle.layout_set.specs.Law13.{LiesIn}
use Rattle.layout_func_laws.proofs.entries.lies_in.Given as goal

abbrev pub invariant-loop-zone : goal.invariant-loop-zone
invariant-loop-zone l = AllWithin (LiesIn l.entry) l.zones 0 l.zone-index
