use Rattle.std.proofs.Common.{◌≤◌, ◌-◌, length}
use Rattle.cv_links.specs.Ends.{AreEnds}
use Rattle.cv_links.proofs.ends.read_ends.Given as goal

-- the ends so far are those of the first records
abbrev pub invariant-loop-ends : goal.invariant-loop-ends
invariant-loop-ends l = record { are : AreEnds l.records l.ends.items; few : length l.ends.items ≤ length l.records }

abbrev pub decreases-loop-ends : goal.decreases-loop-ends
decreases-loop-ends l = length l.records - length l.ends.items
