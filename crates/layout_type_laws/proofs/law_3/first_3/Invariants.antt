use Rattle.std.proofs.Common.{ℕ, ◌<◌}
use Rattle.layout_set.specs.Law3.{IsSmall}
use Rattle.layout_type_laws.proofs.law_3.first_3.Given as goal

abbrev pub invariant-loop-i : goal.invariant-loop-i
invariant-loop-i l = (j : ℕ) → j < l.i → IsSmall l.ptr l.types j
