use Rattle.std.specs.Prelude.{◌≡◌}
use Rattle.dwarf_variants.specs.Counts.{is_any_listed}
use Rattle.dwarf_variants.proofs.Lists.{listed_among}
use Rattle.dwarf_variants.proofs.parts.is_any_listed.Given as goal

-- a variant lists a number where one of those that are left does
abbrev pub invariant-loop-variant : goal.invariant-loop-variant
invariant-loop-variant l = is_any_listed l.part.info l.part.die ≡ listed_among l.variant-iterator
