use Rattle.std.proofs.Common.{◌≡◌, map, take}
use Rattle.layout_carried.specs.Carried.{carried_field}
use Rattle.layout_carried.proofs.carried_types.carried_fields.Given as goal

-- the fields so far, as they are carried
abbrev pub invariant-loop-field : goal.invariant-loop-field
invariant-loop-field l = l.found ≡ map (carried_field l.pointer_size) (take l.field-index l.fields)
