use Rattle.std.specs.Prelude.{map}
use Rattle.dwarf_entries.specs.Enums.{variant_of, variants_in}
use Rattle.dwarf_types.specs.Said.{IsVariant}
use Rattle.dwarf_types.proofs.Lists.{AreLeft}
use Rattle.dwarf_types.proofs.variants.variants_of.Given as goal

-- the variants so far, and those that are left
abbrev pub invariant-loop-entry : goal.invariant-loop-entry
invariant-loop-entry l =
    AreLeft l.links (IsVariant l.links) (variant_of l.links l.part.die) l.variants l.entry-iterator (map (variant_of l.links l.part.die) (variants_in l.links l.part.die))
