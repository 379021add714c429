use Rattle.std.proofs.Common.{◌+◌, ◌<◌}
use Rattle.std.specs.List.{AllAdjacentBelow}
use Rattle.layout_set.specs.Numbers.{difference_of}
use Rattle.layout_type_laws.proofs.law_8.differences_rise.Given as goal

abbrev pub invariant-loop-i : goal.invariant-loop-i
invariant-loop-i l = AllAdjacentBelow (λ a b. difference_of (l.greatest + 1) l.from a < difference_of (l.greatest + 1) l.from b) l.numbers l.i
