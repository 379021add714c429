use Rattle.std.specs.Prelude.{◌≡◌, IfSome, option_map}
use Rattle.dwarf_entries.specs.Enums.{listed_numbers}
use Rattle.dwarf_variants.specs.Ends.{DoFit, ends_of, ends_seen}
use Rattle.dwarf_variants.proofs.Lists.{ends_after, numbers_among}
use Rattle.dwarf_variants.proofs.numbers.listed_in.Given as goal

-- the ends of those so far and those that are left are those of all
abbrev pub invariant-loop-variant : goal.invariant-loop-variant
invariant-loop-variant l =
    (ends_after (option_map ends_seen l.listed) (numbers_among l.prim l.variant-iterator) ≡ ends_of (listed_numbers l.part.info l.prim l.part.die))
    × IfSome l.listed (DoFit l.prim)
