use Rattle.std.specs.List.{AllWithin}
use Rattle.layout_set.specs.Law1.{VarsWithin}
use Rattle.layout_type_laws.proofs.law_1.has_vars_within.Given as goal

abbrev pub invariant-loop-scope : goal.invariant-loop-scope
invariant-loop-scope l = AllWithin (VarsWithin l.count) l.scopes 0 l.scope-index
