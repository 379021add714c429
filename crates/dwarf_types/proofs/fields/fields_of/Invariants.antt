use Rattle.dwarf_types.proofs.Members.{AreFieldsLeft}
use Rattle.dwarf_types.proofs.fields.fields_of.Given as goal

-- the fields so far, and those that are left among the children
abbrev pub invariant-loop-child : goal.invariant-loop-child
invariant-loop-child l = AreFieldsLeft l.links l.die.die l.fields l.child-iterator
