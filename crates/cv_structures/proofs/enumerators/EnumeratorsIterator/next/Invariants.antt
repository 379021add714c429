use Rattle.std.specs.Prelude.{◌≡◌, length}
use Rattle.cv_structures.specs.Enumerators.{enumerators_among}
use Rattle.cv_structures.proofs.enumerators.EnumeratorsIterator.next.Given as goal

-- no enumerator was passed over
abbrev pub invariant-loop-placed : goal.invariant-loop-placed
invariant-loop-placed l = enumerators_among l.self-inside.members ≡ enumerators_among l.initial.self-inside.members

abbrev pub decreases-loop-placed : goal.decreases-loop-placed
decreases-loop-placed l = length l.self-inside.members
