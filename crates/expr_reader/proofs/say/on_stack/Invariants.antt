use Rattle.std.proofs.Common.{◌≡◌, map, take, Some}
use Rattle.expr_bytes.specs.Operations.{oper_of, all_on_stack}
use Rattle.expr_reader.proofs.say.on_stack.Given as goal

-- what the operations so far do on the stack
abbrev pub invariant-loop-oper : goal.invariant-loop-oper
invariant-loop-oper l = all_on_stack (map oper_of (take l.oper-index l.opers)) ≡ Some l.ops
