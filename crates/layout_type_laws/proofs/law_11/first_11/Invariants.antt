use Rattle.std.proofs.Common.{ℕ, ◌<◌}
use Rattle.std.specs.List.{HoldsAt}
use Rattle.layout_set.specs.Law11.{StandsAfterNameless}
use Rattle.layout_type_laws.proofs.law_11.first_11.Given as goal

abbrev pub invariant-loop-i : goal.invariant-loop-i
invariant-loop-i l = (j : ℕ) → j < l.i → HoldsAt (StandsAfterNameless l.types j) l.types j
