use Rattle.std.specs.Prelude.{◌≡◌}
use Rattle.dwarf_entries.specs.TypeLinks.{type_end}
use Rattle.dwarf_links.specs.Ends.{end_in}
use Rattle.dwarf_links.proofs.EndSteps.{end_from}
use Rattle.dwarf_links.proofs.ends.type_end.Given as goal

-- from the place on the way leads where the type of the entry leads
abbrev pub invariant-loop-at : goal.invariant-loop-at
invariant-loop-at l = end_from l.left l.at ≡ end_in l.die.info (type_end l.die.info l.die.die)

abbrev pub decreases-loop-at : goal.decreases-loop-at
decreases-loop-at l = l.left
