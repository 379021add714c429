use Rattle.std.specs.Prelude.{◌≡◌}
use Rattle.dwarf_scopes.proofs.OriginSteps.{bearer_from}
use Rattle.dwarf_scopes.proofs.origins.bearer_of.Given as goal

-- the attribute is sought from here in the steps that are left
abbrev pub invariant-loop-origin : goal.invariant-loop-origin
invariant-loop-origin l = bearer_from l.code l.steps l.origin ≡ bearer_from l.code 8 l.die

abbrev pub decreases-loop-origin : goal.decreases-loop-origin
decreases-loop-origin l = l.steps
