use Rattle.std.specs.Prelude.{◌≡◌, ◌++◌}
use Rattle.dwarf_names.specs.Scopes.{scopes_around}
use Rattle.dwarf_names.proofs.ScopeSteps.{scopes_from, steps_from}
use Rattle.dwarf_names.proofs.scopes.scopes_around.Given as goal

-- those so far, and those from the next entry on, are all
abbrev pub invariant-loop-next : goal.invariant-loop-next
invariant-loop-next l = l.scopes ++ scopes_from l.next ≡ scopes_around l.die

abbrev pub decreases-loop-next : goal.decreases-loop-next
decreases-loop-next l = steps_from l.next
