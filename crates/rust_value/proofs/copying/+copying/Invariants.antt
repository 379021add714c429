use Rattle.std.proofs.Common.{◌≡◌, map, take}
use Rattle.rust_value.specs.Held.{value_of, part_of}
use Rattle.rust_value.proofs.copying.+copying.Given as goal

-- the parts so far are copied
abbrev pub invariant-copy_parts-loop-part : goal.invariant-copy_parts-loop-part
invariant-copy_parts-loop-part l = l.copies ≡ map part_of (take l.part-index l.parts)

-- the values so far are copied
abbrev pub invariant-copy_values-loop-value : goal.invariant-copy_values-loop-value
invariant-copy_values-loop-value l = l.copies ≡ map value_of (take l.value-index l.values)
