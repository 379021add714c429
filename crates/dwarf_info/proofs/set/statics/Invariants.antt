use Rattle.dwarf_info.proofs.Statics.{AreLeft}
use Rattle.dwarf_info.proofs.set.statics.Given as goal

-- the statics so far, and the entries that are left
abbrev pub invariant-loop-die : goal.invariant-loop-die
invariant-loop-die l = AreLeft l.links l.statics l.die-iterator
