use Rattle.dwarf_rules.proofs.ShapeLists.{AreSoFar}
use Rattle.dwarf_rules.proofs.shapes.read_shapes.Given as goal

-- what the entries so far are
abbrev pub invariant-loop-die : goal.invariant-loop-die
invariant-loop-die l = AreSoFar l.fn.links l.die-iterator l.shapes
