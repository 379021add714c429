use Rattle.std.specs.Prelude.{◌≡◌}
use Rattle.dwarf_scopes.proofs.OriginSteps.{more_from}
use Rattle.dwarf_scopes.proofs.origins.goes_on.Given as goal

-- the abstract_origin after the last step is sought from here
abbrev pub invariant-loop-steps : goal.invariant-loop-steps
invariant-loop-steps l = more_from l.steps l.origin ≡ more_from 8 l.die

abbrev pub decreases-loop-steps : goal.decreases-loop-steps
decreases-loop-steps l = l.steps
