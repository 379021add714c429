use Rattle.std.specs.Prelude.{◌≡◌}
use Rattle.dwarf_entries.specs.Structures.{has_part}
use Rattle.dwarf_scopes.proofs.Parts.{part_among}
use Rattle.dwarf_scopes.proofs.structures.has_part.Given as goal

-- a part is below the entry where one is among the children that are left
abbrev pub invariant-loop-child : goal.invariant-loop-child
invariant-loop-child l = has_part l.die.info l.die.die ≡ part_among l.child-iterator
