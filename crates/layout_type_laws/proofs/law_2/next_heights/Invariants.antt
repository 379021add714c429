use Rattle.std.proofs.Common.{◌≡◌, take, map}
use Rattle.layout_type_laws.specs.Heights.{step}
use Rattle.layout_type_laws.proofs.law_2.next_heights.Given as goal

abbrev pub invariant-loop-def : goal.invariant-loop-def
invariant-loop-def l = l.next.items ≡ map (step l.heights) (take l.def-index l.types)
