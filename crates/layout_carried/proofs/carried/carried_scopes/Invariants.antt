use Rattle.std.proofs.Common.{◌≡◌, map, take}
use Rattle.layout_carried.specs.Carried.{carried_scope}
use Rattle.layout_carried.proofs.carried.carried_scopes.Given as goal

-- the scopes so far, as they are carried
abbrev pub invariant-loop-scope : goal.invariant-loop-scope
invariant-loop-scope l = l.found ≡ map (carried_scope l.pointer_size) (take l.scope-index l.scopes)
