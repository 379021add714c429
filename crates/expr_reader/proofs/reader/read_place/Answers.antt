-- Operation by operation, up to the end.
use Rattle.std.proofs.Common.{map, refl}
use Rattle.std.proofs.lemmas.Result.{err_from_is_err_and}
use Rattle.expr_bytes.specs.Operations.{oper_of}
use Rattle.expr_reader.proofs.Nexts.{none_read, one_more, next_fault, end_taken, end_refused}
use Rattle.expr_reader.proofs.reader.read_place.Goals as goal

pub loop-frame-init : goal.loop-frame-init
loop-frame-init c = rw c.new-opers.ensures (none_read c.args.frame c.args.addrs.now c.args.cut.now c.at-last.result)

pub returns-in_err-last-clause-refused : goal.returns-in_err-last-clause-refused
returns-in_err-last-clause-refused c =
    let p = err_from_is_err_and c.from_residual.result c.from_residual.ensures.1 in
    rw (p.1, p.2)
    (next_fault c.args.frame c.args.addrs.now c.args.cut.now c.loop-frame.cut (map oper_of c.loop-frame.opers) c.loop-frame.last c.in_err-last.field-0.0 c.loop-frame.invariant (λ x. let h = c.loop-frame-test.ensures.1 x in cc)
    c.in_err-last.ensures.refused)

pub loop-frame-preserved : goal.loop-frame-preserved
loop-frame-preserved c =
    one_more c.args.frame c.args.addrs.now c.args.cut.now c.loop-frame.cut c.read_next.new.cut (map oper_of c.loop-frame.opers) (map oper_of c.read_next.new.opers) c.loop-frame.last c.in_ok-last.last c.loop-frame.invariant c.in_ok-last.ensures.read

pub returns-clause-taken : goal.returns-clause-taken
returns-clause-taken c =
    end_taken c.args.frame c.args.addrs.now c.args.cut.now c.loop-frame.cut c.loop-frame.opers c.as_slice.result.now c.loop-frame.last c.place_of.result c.loop-frame.invariant (c.loop-frame-test.ensures.0 refl) c.as_slice.ensures c.place_of.ensures.said

pub returns-clause-refused : goal.returns-clause-refused
returns-clause-refused c =
    end_refused c.args.frame c.args.addrs.now c.args.cut.now c.loop-frame.cut c.loop-frame.opers c.as_slice.result.now c.loop-frame.last c.place_of.result c.loop-frame.invariant (c.loop-frame-test.ensures.0 refl) c.as_slice.ensures c.place_of.ensures.refused
