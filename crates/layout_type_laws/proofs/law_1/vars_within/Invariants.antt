use Rattle.std.specs.List.{AllWithin}
use Rattle.layout_set.specs.Law1.{VarWithin}
use Rattle.layout_type_laws.proofs.law_1.vars_within.Given as goal

abbrev pub invariant-loop-var : goal.invariant-loop-var
invariant-loop-var l = AllWithin (VarWithin l.count) l.vars 0 l.var-index
