use Rattle.std.proofs.Common.{◌≡◌, map, take}
use Rattle.layout_carried.specs.Carried.{carried_func}
use Rattle.layout_carried.proofs.carried.carried_funcs.Given as goal

-- the functions so far, as they are carried
abbrev pub invariant-loop-func : goal.invariant-loop-func
invariant-loop-func l = l.found ≡ map (carried_func l.pointer_size) (take l.func-index l.funcs)
