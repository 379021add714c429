use Rattle.std.specs.Prelude.{map}
use Rattle.cv_type_defs.specs.TypeRefs.{field_of, field_rule}
use Rattle.cv_structures.proofs.Growing.{AreLeft}
use Rattle.cv_structures.proofs.fields.fields_of.Given as goal

-- the fields so far, and those that are left
abbrev pub invariant-loop-field : goal.invariant-loop-field
invariant-loop-field l = AreLeft (field_rule l.info) (field_of l.info) l.made l.field-iterator (map (field_of l.info) l.fn.fields)
