use Rattle.dwarf_items.proofs.PartLists.{AreSoFar}
use Rattle.dwarf_items.proofs.parts.read_parts.Given as goal

-- of the entries so far, whether they have a variant part
abbrev pub invariant-loop-die : goal.invariant-loop-die
invariant-loop-die l = AreSoFar l.fn.dies l.die-iterator l.parts
