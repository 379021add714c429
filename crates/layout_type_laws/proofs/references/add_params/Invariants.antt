use Rattle.std.proofs.Common.{◌≡◌, ◌++◌, take}
use Rattle.layout_set.specs.References.{param_types}
use Rattle.layout_type_laws.proofs.references.add_params.Given as goal

abbrev pub invariant-loop-param : goal.invariant-loop-param
invariant-loop-param l = l.found.items ≡ l.initial.found.items ++ param_types (take l.param-index l.params)
