use Rattle.dwarf_dies.specs.Parents.{HasBasesOf}
use Rattle.dwarf_dies.proofs.dies.Dies.root.Given as goal

-- the entry that was reached has the same bases
abbrev pub invariant-loop-up : goal.invariant-loop-up
invariant-loop-up l = HasBasesOf l.self l.number l.at

abbrev pub decreases-loop-up : goal.decreases-loop-up
decreases-loop-up l = l.at
