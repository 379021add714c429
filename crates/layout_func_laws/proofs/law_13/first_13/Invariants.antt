use Rattle.std.specs.List.{AllWithin}
use Rattle.layout_set.specs.Law13.{HasPlacedScopes}
use Rattle.layout_func_laws.proofs.law_13.first_13.Given as goal

abbrev pub invariant-loop-i : goal.invariant-loop-i
invariant-loop-i l = AllWithin (HasPlacedScopes l.ptr l.types) l.funcs 0 l.i
