use Rattle.std.proofs.Common.{map}
use Rattle.entry_tree.specs.Links.{entry_of}
use Rattle.entry_tree.proofs.Insertions.{IsWalked}
use Rattle.entry_tree.proofs.Ways.{steps_left}
use Rattle.entry_tree.proofs.search.insertion_under.Given as goal

-- the walk to `under` has come from `sibling` to `at`, which has this depth
abbrev pub invariant-loop-under : goal.invariant-loop-under
invariant-loop-under l = IsWalked (map entry_of l.nodes) l.under l.at l.sibling l.depth

abbrev pub decreases-loop-under : goal.decreases-loop-under
decreases-loop-under l = steps_left l.at
