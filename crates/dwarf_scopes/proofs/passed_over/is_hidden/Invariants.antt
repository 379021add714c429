use Rattle.std.specs.Prelude.{◌≡◌}
use Rattle.dwarf_entries.specs.PassedOver.{is_hidden}
use Rattle.dwarf_scopes.proofs.Above.{hidden_from, left_from}
use Rattle.dwarf_scopes.proofs.passed_over.is_hidden.Given as goal

-- it is decided by the entry that was reached, and those around that
abbrev pub invariant-loop-above : goal.invariant-loop-above
invariant-loop-above l = is_hidden l.die.info l.die.die ≡ hidden_from l.above

abbrev pub decreases-loop-above : goal.decreases-loop-above
decreases-loop-above l = left_from l.above
