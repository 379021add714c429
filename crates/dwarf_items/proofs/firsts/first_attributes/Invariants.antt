use Rattle.std.proofs.Common.{◌≡◌, length}
use Rattle.dwarf_items.specs.Firsts.{low_firsts}
use Rattle.dwarf_items.proofs.LowFirsts.{collected}
use Rattle.dwarf_items.proofs.firsts.first_attributes.Given as goal

-- those collected, with those that are still to be read, are the first ones
abbrev pub invariant-loop-attribute : goal.invariant-loop-attribute
invariant-loop-attribute l = collected l.firsts l.attributes ≡ low_firsts l.die.die.entry

abbrev pub decreases-loop-attribute : goal.decreases-loop-attribute
decreases-loop-attribute l = length l.attributes
