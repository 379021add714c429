use Rattle.std.specs.Prelude.{◌≡◌}
use Rattle.dwarf_entries.specs.Types.{count_of}
use Rattle.dwarf_pointers.proofs.ChildLists.{count_from}
use Rattle.dwarf_pointers.proofs.arrays.count_of.Given as goal

-- the count is the one that was seen, or the one of those that are left
abbrev pub invariant-loop-child : goal.invariant-loop-child
invariant-loop-child l = count_from l.is_seen l.count l.child-iterator ≡ count_of l.die.info l.die.die
