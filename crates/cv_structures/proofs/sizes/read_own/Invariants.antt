use Rattle.std.proofs.Common.{◌≤◌, ◌-◌, length}
use Rattle.cv_structures.specs.steps.Sizes.{AreOwn}
use Rattle.cv_structures.proofs.sizes.read_own.Given as goal

-- the sizes so far are those of the first records
abbrev pub invariant-loop-alloc : goal.invariant-loop-alloc
invariant-loop-alloc l = record { are : AreOwn l.info l.own.items; few : length l.own.items ≤ length l.info.records }

abbrev pub decreases-loop-alloc : goal.decreases-loop-alloc
decreases-loop-alloc l = length l.info.records - length l.own.items
