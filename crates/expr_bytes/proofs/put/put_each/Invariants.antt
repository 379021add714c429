use Rattle.std.proofs.Common.{take}
use Rattle.expr_bytes.specs.Written.{ArePut}
use Rattle.expr_bytes.proofs.put.put_each.Given as goal

-- the operations so far were appended
abbrev pub invariant-loop-op : goal.invariant-loop-op
invariant-loop-op l = ArePut (take l.op-index l.ops) l.fn.out l.out
