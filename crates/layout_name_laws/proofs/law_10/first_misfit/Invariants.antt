use Rattle.std.proofs.Common.{ℕ, ◌<◌}
use Rattle.layout_set.specs.Law10.{HasDerivedName}
use Rattle.layout_name_laws.proofs.law_10.first_misfit.Given as goal

abbrev pub invariant-loop-i : goal.invariant-loop-i
invariant-loop-i l = (j : ℕ) → j < l.i → HasDerivedName l.types j
