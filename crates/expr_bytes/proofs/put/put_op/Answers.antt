-- The code, and then what follows it.
use Rattle.std.proofs.Common.{arith}
use Rattle.rv_bytes.proofs.Puts.{on_ok}
use Rattle.expr_bytes.proofs.Written.{op_put}
use Rattle.expr_bytes.proofs.put.put_op.Goals as goal

pub returns-clause-put : goal.returns-clause-put
returns-clause-put c frame addrs =
    on_ok (op_put frame addrs c.args.op c.code_of.result c.args.out.now c.put_u8.new.out c.put_operands.new.out (omega arith) c.code_of.ensures c.in_ok-put_u8.ensures.appended) c.put_operands.result
    (c.put_operands.ensures.put frame addrs)
