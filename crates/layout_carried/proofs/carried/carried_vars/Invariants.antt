use Rattle.std.proofs.Common.{◌≡◌, map, take}
use Rattle.layout_carried.specs.Carried.{carried_var}
use Rattle.layout_carried.proofs.carried.carried_vars.Given as goal

-- the variables so far, as they are carried
abbrev pub invariant-loop-var : goal.invariant-loop-var
invariant-loop-var l = l.found ≡ map (carried_var l.pointer_size) (take l.var-index l.vars)
