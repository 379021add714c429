use Rattle.std.specs.List.{AllWithin}
use Rattle.layout_set.specs.Law10.{IsNamedByPath}
use Rattle.layout_name_laws.proofs.law_10.first_func_10.Given as goal

abbrev pub invariant-loop-i : goal.invariant-loop-i
invariant-loop-i l = AllWithin IsNamedByPath l.funcs 0 l.i
