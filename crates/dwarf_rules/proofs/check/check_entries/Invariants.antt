use Rattle.dwarf_rules.proofs.Checked.{AreDone}
use Rattle.dwarf_rules.proofs.check.check_entries.Given as goal

-- the entries so far break no rule, and these are their counts
abbrev pub invariant-loop-die : goal.invariant-loop-die
invariant-loop-die l = AreDone l.fn.links l.die-iterator l.counts
