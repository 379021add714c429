use Rattle.std.specs.Prelude.{◌≡◌}
use Rattle.dwarf_dies.specs.Handles.{beside}
use Rattle.dwarf_scopes.proofs.Above.{left_from}
use Rattle.dwarf_zones.specs.Units.{root_of}
use Rattle.dwarf_zones.proofs.WaysUp.{root_by}
use Rattle.dwarf_zones.proofs.units.root_of.Given as goal

-- it is decided by the entry that was reached, and the one above it
abbrev pub invariant-loop-above : goal.invariant-loop-above
invariant-loop-above l = beside l.die (root_of l.die.die) ≡ root_by l.root l.above

abbrev pub decreases-loop-above : goal.decreases-loop-above
decreases-loop-above l = left_from l.above
