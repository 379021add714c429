use Rattle.std.proofs.Common.{◌≡◌, drop, map, max}
use Rattle.layout_set.specs.References.{field_types}
use Rattle.layout_type_laws.specs.Heights.{greatest, height_at}
use Rattle.layout_type_laws.proofs.law_2.highest_field.Given as goal

abbrev pub invariant-loop-field : goal.invariant-loop-field
invariant-loop-field l = max l.most (greatest (map (height_at l.heights) (field_types (drop l.field-index l.fields)))) ≡ max l.from (greatest (map (height_at l.heights) (field_types l.fields)))
