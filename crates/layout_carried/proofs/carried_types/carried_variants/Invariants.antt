use Rattle.std.proofs.Common.{◌≡◌, map, take}
use Rattle.layout_carried.specs.Carried.{carried_variant}
use Rattle.layout_carried.proofs.carried_types.carried_variants.Given as goal

-- the variants so far, as they are carried
abbrev pub invariant-loop-variant : goal.invariant-loop-variant
invariant-loop-variant l = l.found ≡ map (carried_variant l.pointer_size) (take l.variant-index l.variants)
