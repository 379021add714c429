use Rattle.std.specs.Prelude.{◌≡◌, ◌≤◌, ◌+◌, min}
use Rattle.dwarf_variants.specs.Counts.{unlisted_in}
use Rattle.dwarf_variants.proofs.Lists.{unlisted_among}
use Rattle.dwarf_variants.proofs.parts.unlisted.Given as goal

-- those so far, and those among the variants that are left, are all
abbrev pub invariant-loop-variant : goal.invariant-loop-variant
invariant-loop-variant l = (l.count ≤ 2) × (min (l.count + unlisted_among l.variant-iterator) 2 ≡ unlisted_in l.part.info l.part.die)
