use Rattle.std.specs.Prelude.{◌≡◌, ◌++◌, map}
use Rattle.dwarf_entries.specs.Structures.{is_member, members_of}
use Rattle.dwarf_dies.specs.Handles.{beside}
use Rattle.dwarf_pointers.proofs.ChildLists.{those}
use Rattle.dwarf_pointers.proofs.members.members_of.Given as goal

-- those so far, and those among the children that are left, are all
abbrev pub invariant-loop-child : goal.invariant-loop-child
invariant-loop-child l = l.members ++ those is_member l.child-iterator ≡ map (beside l.die) (members_of l.die.info l.die.die)
