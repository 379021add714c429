use Rattle.std.specs.List.{AllWithin}
use Rattle.layout_set.specs.Law1.{HasVarsWithin}
use Rattle.layout_type_laws.proofs.law_1.first_func_1.Given as goal

abbrev pub invariant-loop-i : goal.invariant-loop-i
invariant-loop-i l = AllWithin (HasVarsWithin l.count) l.funcs 0 l.i
