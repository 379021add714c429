-- One operation more.
use Rattle.std.proofs.Common.{sym}
use Rattle.expr_eval.specs.declared.operation.Op.TheVariants as op
use Rattle.expr_bytes.specs.declared.operation.Operation.{Operation}
use Rattle.expr_reader.proofs.Stacks.{stack_stops, stack_more}
use Rattle.expr_reader.proofs.say.on_stack.Goals as goal

pub returns-then-not-branch : goal.returns-then-not-branch
returns-then-not-branch c = sym (stack_stops c.args.opers.now c.loop-oper.oper-index (Operation.Machine (op.Const 0)) c.loop-oper-test.true (rw c.if-not-branch.true at c.in_ok-add.ensures.added))

pub loop-oper-preserved : goal.loop-oper-preserved
loop-oper-preserved c =
    stack_more c.args.opers.now c.loop-oper.oper-index (Operation.Machine (op.Const 0)) c.loop-oper.ops c.add.new.ops c.loop-oper-test.true c.loop-oper.invariant (rw c.if-not-branch.false at c.in_ok-add.ensures.added)
