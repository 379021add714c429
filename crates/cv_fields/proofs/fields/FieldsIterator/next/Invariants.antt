use Rattle.std.specs.Prelude.{◌≡◌, length}
use Rattle.cv_fields.specs.Members.{fields_among}
use Rattle.cv_fields.proofs.fields.FieldsIterator.next.Given as goal

-- no field was passed over
abbrev pub invariant-loop-placed : goal.invariant-loop-placed
invariant-loop-placed l = fields_among l.self-inside.members ≡ fields_among l.initial.self-inside.members

abbrev pub decreases-loop-placed : goal.decreases-loop-placed
decreases-loop-placed l = length l.self-inside.members
