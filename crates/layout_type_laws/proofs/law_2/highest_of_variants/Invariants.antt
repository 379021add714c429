use Rattle.std.proofs.Common.{◌≡◌, drop, map, max}
use Rattle.layout_set.specs.References.{variant_types}
use Rattle.layout_type_laws.specs.Heights.{greatest, height_at}
use Rattle.layout_type_laws.proofs.law_2.highest_of_variants.Given as goal

abbrev pub invariant-loop-variant : goal.invariant-loop-variant
invariant-loop-variant l = max l.most (greatest (map (height_at l.heights) (variant_types (drop l.variant-index l.variants)))) ≡ greatest (map (height_at l.heights) (variant_types l.variants))
