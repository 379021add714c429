use Rattle.dwarf_types.proofs.SetTypes.{AreTypesLeft}
use Rattle.dwarf_types.proofs.type_defs.types.Given as goal

-- the types so far, and those that are left among the entries
abbrev pub invariant-loop-die : goal.invariant-loop-die
invariant-loop-die l = AreTypesLeft l.links l.types l.die-iterator
