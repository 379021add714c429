-- One operation more, and none left.
use Rattle.rv_bytes.proofs.Puts.{on_ok}
use Rattle.expr_eval.specs.declared.operation.Op.TheVariants as op
use Rattle.expr_bytes.proofs.Written.{sound_at, more_put, all_put}
use Rattle.expr_bytes.proofs.put.put_each.Goals as goal

pub put_op-requires : goal.put_op-requires
put_op-requires c = sound_at c.args.ops.now c.loop-op.op-index (op.Const 0) c.loop-op-test.true c.requires

pub loop-op-preserved : goal.loop-op-preserved
loop-op-preserved c =
    more_put c.args.ops.now c.loop-op.op-index (op.Const 0) c.args.out.now c.loop-op.out c.put_op.new.out c.loop-op-test.true c.loop-op.invariant c.put_op.ensures.kept (λ frame addrs. c.in_ok-put_op.ensures.put frame addrs)

pub returns-clause-put : goal.returns-clause-put
returns-clause-put c = all_put c.args.ops.now c.loop-op.op-index c.args.out.now c.loop-op.out c.loop-op-test.false c.loop-op.invariant
