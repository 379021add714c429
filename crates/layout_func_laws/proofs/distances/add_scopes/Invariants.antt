use Rattle.std.proofs.Common.{◌≡◌, ◌++◌, drop}
use Rattle.std.specs.List.{flat_map}
use Rattle.layout_func_laws.proofs.distances.add_scopes.Given as goal

abbrev pub invariant-loop-scope : goal.invariant-loop-scope
invariant-loop-scope l = l.found.items ++ flat_map (λ s. s.zones) (drop l.scope-index l.scopes) ≡ l.initial.found.items ++ flat_map (λ s. s.zones) l.scopes
