use Rattle.std.specs.Prelude.{◌≡◌}
use Rattle.std.specs.Option.{option_map}
use Rattle.dwarf_dies.specs.Handles.{beside}
use Rattle.dwarf_scopes.proofs.Above.{left_from}
use Rattle.dwarf_zones.specs.Scopes.{is_scope, scope_of}
use Rattle.dwarf_zones.proofs.WaysUp.{nearest_from}
use Rattle.dwarf_zones.proofs.scopes.scope_of.Given as goal

-- it is decided by the entry that was reached, and those above it
abbrev pub invariant-loop-above : goal.invariant-loop-above
invariant-loop-above l = option_map (beside l.die) (scope_of l.die.die) ≡ nearest_from is_scope l.above

abbrev pub decreases-loop-above : goal.decreases-loop-above
decreases-loop-above l = left_from l.above
