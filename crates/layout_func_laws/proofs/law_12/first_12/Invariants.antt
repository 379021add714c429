use Rattle.std.specs.List.{AllWithin}
use Rattle.layout_set.specs.Law12.{HasNestedScopes}
use Rattle.layout_func_laws.proofs.law_12.first_12.Given as goal

abbrev pub invariant-loop-i : goal.invariant-loop-i
invariant-loop-i l = AllWithin HasNestedScopes l.funcs 0 l.i
