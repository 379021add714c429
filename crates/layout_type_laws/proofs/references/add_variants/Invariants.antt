use Rattle.std.proofs.Common.{◌≡◌, ◌++◌, drop}
use Rattle.layout_set.specs.References.{variant_types}
use Rattle.layout_type_laws.proofs.references.add_variants.Given as goal

abbrev pub invariant-loop-variant : goal.invariant-loop-variant
invariant-loop-variant l = l.found.items ++ variant_types (drop l.variant-index l.variants) ≡ l.initial.found.items ++ variant_types l.variants
