use Rattle.std.specs.Prelude.{◌≡◌}
use Rattle.dwarf_entries.specs.PassedOver.{is_in_type}
use Rattle.dwarf_scopes.proofs.Above.{type_from, left_from}
use Rattle.dwarf_scopes.proofs.passed_over.is_in_type.Given as goal

-- it is decided by the entry that was reached, and those around that
abbrev pub invariant-loop-above : goal.invariant-loop-above
invariant-loop-above l = is_in_type l.die.die ≡ type_from l.above

abbrev pub decreases-loop-above : goal.decreases-loop-above
decreases-loop-above l = left_from l.above
