use Rattle.std.specs.Prelude.{map}
use Rattle.cv_type_defs.specs.Items.{lowest}
use Rattle.cv_type_defs.specs.TypeRefs.{field_rule}
use Rattle.cv_structures.proofs.Growing.{IsLowest}
use Rattle.cv_structures.proofs.fields.fields_rule.Given as goal

-- the lowest so far, and the rules of the fields that are left
abbrev pub invariant-loop-field : goal.invariant-loop-field
invariant-loop-field l = IsLowest (field_rule l.info) l.low l.field-iterator (lowest (map (field_rule l.info) l.fn.fields))
