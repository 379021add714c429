use Rattle.std.proofs.Common.{◌≡◌}
use Rattle.layout_type_laws.specs.Heights.{heights}
use Rattle.layout_type_laws.proofs.law_2.all_heights.Given as goal

abbrev pub invariant-loop-round : goal.invariant-loop-round
invariant-loop-round l = l.found.items ≡ heights l.types l._round
