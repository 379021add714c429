use Rattle.std.proofs.Common.{◌≡◌, ◌-◌, ◌^◌, min, take}
use Rattle.std.specs.List.{sum_by}
use Rattle.layout_set.specs.Counts.{variant_parts}
use Rattle.layout_func_laws.proofs.parts.count_variants.Given as goal

abbrev pub invariant-loop-variant : goal.invariant-loop-variant
invariant-loop-variant l = l.count ≡ min (sum_by variant_parts (take l.variant-index l.variants)) (2 ^ 64 - 1)
