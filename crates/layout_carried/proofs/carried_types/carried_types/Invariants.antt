use Rattle.std.proofs.Common.{◌≡◌, map, take}
use Rattle.layout_carried.specs.Carried.{carried_type}
use Rattle.layout_carried.proofs.carried_types.carried_types.Given as goal

-- the types so far, as they are carried
abbrev pub invariant-loop-def : goal.invariant-loop-def
invariant-loop-def l = l.found ≡ map (carried_type l.pointer_size) (take l.def-index l.types)
