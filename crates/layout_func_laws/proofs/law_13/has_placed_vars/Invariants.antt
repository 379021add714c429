use Rattle.std.specs.List.{AllWithin}
use Rattle.layout_set.specs.Law13.{IsPlaced}
use Rattle.layout_func_laws.proofs.law_13.has_placed_vars.Given as goal

abbrev pub invariant-loop-var : goal.invariant-loop-var
invariant-loop-var l = AllWithin (IsPlaced l.ptr l.types l.zones) l.scope.vars 0 l.var-index
