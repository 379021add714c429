use Rattle.std.proofs.Common.{◌≡◌, map, take}
use Rattle.layout_carried.specs.Carried.{carried_static}
use Rattle.layout_carried.proofs.carried.carried_statics.Given as goal

-- the statics so far, as they are carried
abbrev pub invariant-loop-fixed : goal.invariant-loop-fixed
invariant-loop-fixed l = l.found ≡ map (carried_static l.pointer_size) (take l.fixed-index l.statics)
