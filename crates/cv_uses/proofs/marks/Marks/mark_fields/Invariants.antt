use Rattle.std.proofs.Common.{◌≡◌, map}
use Rattle.cv_type_defs.specs.Fields.{field_target}
use Rattle.cv_uses.specs.Marks.{with_marks}
use Rattle.cv_uses.proofs.marks.Marks.mark_fields.Given as goal

-- the marks with those of the fields that are left are all
abbrev pub invariant-loop-field : goal.invariant-loop-field
invariant-loop-field l = with_marks l.self (map (field_target l.links) l.field-iterator) ≡ with_marks l.initial.self (map (field_target l.links) l.fn.fields)
