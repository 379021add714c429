use Rattle.dwarf_links.proofs.SetTypes.{AreSoFar}
use Rattle.dwarf_links.proofs.set_types.read_types.Given as goal

-- the types of the set among the entries so far
abbrev pub invariant-loop-die : goal.invariant-loop-die
invariant-loop-die l = AreSoFar l.fn.dies l.die-iterator l.types
