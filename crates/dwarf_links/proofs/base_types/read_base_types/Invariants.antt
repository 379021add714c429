use Rattle.dwarf_links.proofs.BaseTypes.{AreSoFar}
use Rattle.dwarf_links.proofs.base_types.read_base_types.Given as goal

-- the base types among the entries so far
abbrev pub invariant-loop-die : goal.invariant-loop-die
invariant-loop-die l = AreSoFar l.fn.dies l.die-iterator l.kinds
