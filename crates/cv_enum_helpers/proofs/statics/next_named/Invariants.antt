use Rattle.std.proofs.Common.{◌≡◌, length}
use Rattle.cv_enum_helpers.specs.Times.{statics_among}
use Rattle.cv_enum_helpers.proofs.statics.next_named.Given as goal

-- none was passed over
abbrev pub invariant-loop-placed : goal.invariant-loop-placed
invariant-loop-placed l = statics_among l.name l.members ≡ statics_among l.name l.initial.members

abbrev pub decreases-loop-placed : goal.decreases-loop-placed
decreases-loop-placed l = length l.members
