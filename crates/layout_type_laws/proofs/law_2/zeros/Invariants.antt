use Rattle.std.proofs.Common.{◌≡◌, take, map}
use Rattle.layout_type_laws.proofs.law_2.zeros.Given as goal

abbrev pub invariant-loop-def : goal.invariant-loop-def
invariant-loop-def l = l.next.items ≡ map (λ _. 0) (take l._def-index l.types)
