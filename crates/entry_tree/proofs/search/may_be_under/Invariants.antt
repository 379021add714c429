use Rattle.std.proofs.Common.{map}
use Rattle.entry_tree.specs.Links.{entry_of}
use Rattle.entry_tree.proofs.Ways.{AreReached, steps_left}
use Rattle.entry_tree.proofs.search.may_be_under.Given as goal

abbrev pub invariant-loop-at : goal.invariant-loop-at
invariant-loop-at l = AreReached (map entry_of l.nodes) l.under l.at

abbrev pub decreases-loop-at : goal.decreases-loop-at
decreases-loop-at l = steps_left l.at
