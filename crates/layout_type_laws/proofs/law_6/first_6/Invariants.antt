use Rattle.std.specs.List.{AllWithin}
use Rattle.layout_set.specs.Law6.{HasThinPointers}
use Rattle.layout_type_laws.proofs.law_6.first_6.Given as goal

abbrev pub invariant-loop-i : goal.invariant-loop-i
invariant-loop-i l = AllWithin (HasThinPointers l.types) l.types 0 l.i
