use Rattle.std.proofs.Common.{◌≡◌, ◌++◌, take}
use Rattle.layout_set.specs.References.{field_types}
use Rattle.layout_type_laws.proofs.references.add_fields.Given as goal

abbrev pub invariant-loop-field : goal.invariant-loop-field
invariant-loop-field l = l.found.items ≡ l.initial.found.items ++ field_types (take l.field-index l.fields)
