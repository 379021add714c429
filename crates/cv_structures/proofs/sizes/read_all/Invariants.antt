use Rattle.std.proofs.Common.{◌≤◌, ◌-◌, length}
use Rattle.cv_structures.specs.steps.Sizes.{AreSizes}
use Rattle.cv_structures.proofs.sizes.read_all.Given as goal

-- the sizes so far are those of the first records
abbrev pub invariant-loop-sizes : goal.invariant-loop-sizes
invariant-loop-sizes l = record { are : AreSizes l.info l.sizes.items; few : length l.sizes.items ≤ length l.info.records }

abbrev pub decreases-loop-sizes : goal.decreases-loop-sizes
decreases-loop-sizes l = length l.info.records - length l.sizes.items
