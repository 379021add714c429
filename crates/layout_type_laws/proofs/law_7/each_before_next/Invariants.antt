use Rattle.std.specs.List.{AllAdjacentBelow}
use Rattle.layout_set.specs.Overlap.{Before}
use Rattle.layout_type_laws.proofs.law_7.each_before_next.Given as goal

abbrev pub invariant-loop-i : goal.invariant-loop-i
invariant-loop-i l = AllAdjacentBelow Before l.spans l.i
