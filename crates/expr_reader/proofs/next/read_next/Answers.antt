-- The operation was read; then it is in order, and has its frame base.
use Rattle.expr_reader.proofs.Nexts.{order_answer, frame_answer, read_answer}
use Rattle.expr_reader.proofs.next.read_next.Goals as goal

pub returns-then-not-branch-clause-refused : goal.returns-then-not-branch-clause-refused
returns-then-not-branch-clause-refused c =
    order_answer c.args.frame c.args.addrs.now c.args.cut.now c.read_operation.new.cut c.args.opers.now c.push.new.self c.as_slice.result.now c.in-Ok-Some.oper c.in_ok-begin_place-in-Ok-Some.field-0 c.at-at.result c.refused.result
    (rw c.in-Ok-Some.field-0-is at c.in-Ok-Some.ensures.taken) c.as_slice.ensures c.in_ok-push-in-Ok-Some.ensures.last c.in_ok-begin_place-in-Ok-Some.ensures c.if-not-branch.true c.at-at.ensures c.refused.ensures

pub returns-then-is_unframed-clause-refused : goal.returns-then-is_unframed-clause-refused
returns-then-is_unframed-clause-refused c =
    frame_answer c.args.frame c.args.addrs.now c.args.cut.now c.read_operation.new.cut c.args.opers.now c.push.new.self c.as_slice.result.now c.in-Ok-Some.oper c.in_ok-begin_place-in-Ok-Some.field-0 c.is_unframed.result c.at-at.result
    c.refused-then-is_unframed.result (rw c.in-Ok-Some.field-0-is at c.in-Ok-Some.ensures.taken) c.as_slice.ensures c.in_ok-push-in-Ok-Some.ensures.last c.in_ok-begin_place-in-Ok-Some.ensures c.if-not-branch.false c.is_unframed.ensures
    c.if-is_unframed.true c.at-at.ensures c.refused-then-is_unframed.ensures

pub returns-else-is_unframed-clause-read : goal.returns-else-is_unframed-clause-read
returns-else-is_unframed-clause-read c =
    read_answer c.args.frame c.args.addrs.now c.args.cut.now c.read_operation.new.cut c.args.opers.now c.push.new.self c.as_slice.result.now c.in-Ok-Some.oper c.in_ok-begin_place-in-Ok-Some.field-0 c.is_unframed.result c.args.last c.at-at.result
    (rw c.in-Ok-Some.field-0-is at c.in-Ok-Some.ensures.taken) c.as_slice.ensures c.in_ok-push-in-Ok-Some.ensures.last c.in_ok-begin_place-in-Ok-Some.ensures c.if-not-branch.false c.is_unframed.ensures c.if-is_unframed.false c.at-at.ensures
