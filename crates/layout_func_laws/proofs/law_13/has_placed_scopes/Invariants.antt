use Rattle.std.specs.List.{AllWithin}
use Rattle.layout_set.specs.Law13.{HasPlacedVars}
use Rattle.layout_func_laws.proofs.law_13.has_placed_scopes.Given as goal

abbrev pub invariant-loop-scope : goal.invariant-loop-scope
invariant-loop-scope l = AllWithin (HasPlacedVars l.ptr l.types) l.func.scopes 0 l.scope-index
