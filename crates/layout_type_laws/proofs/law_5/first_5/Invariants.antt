use Rattle.std.specs.List.{AllWithin}
use Rattle.layout_set.specs.Law5.{HasFitNumbers}
use Rattle.layout_type_laws.proofs.law_5.first_5.Given as goal

abbrev pub invariant-loop-i : goal.invariant-loop-i
invariant-loop-i l = AllWithin (HasFitNumbers 8) l.types 0 l.i
