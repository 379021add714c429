use Rattle.std.proofs.Common.{◌≡◌}
use Rattle.cv_uses.specs.Marks.{no_marks, with_marks}
use Rattle.cv_uses.proofs.First.{first_uses}
use Rattle.cv_uses.proofs.pointers.read_marks.Given as goal

-- the records so far are done
abbrev pub invariant-loop-place : goal.invariant-loop-place
invariant-loop-place l = l.marks ≡ with_marks no_marks (first_uses l.links l.place)
