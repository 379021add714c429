use Rattle.std.specs.List.{AllAdjacentBelow}
use Rattle.layout_set.specs.Law13.{MayFollow}
use Rattle.layout_func_laws.proofs.entries.rise.Given as goal

abbrev pub invariant-loop-i : goal.invariant-loop-i
invariant-loop-i l = AllAdjacentBelow MayFollow l.entries l.i
