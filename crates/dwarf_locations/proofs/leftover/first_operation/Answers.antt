-- An operation does something, or nothing, or none stands there.
use Rattle.std.proofs.Common.{subst, sym}
use Rattle.expr_bytes.specs.Operations.{oper_of}
use Rattle.dwarf_locations.specs.Expressions.{StandsFirst}
use Rattle.dwarf_locations.proofs.Firsts.{is_first, first_after, none_after, none_by_fault}
use Rattle.dwarf_locations.proofs.leftover.first_operation.Goals as goal

pub returns-in-Ok-Some-clause-first : goal.returns-in-Ok-Some-clause-first
returns-in-Ok-Some-clause-first c =
    let frame = c.args.frame in let addrs = c.args.addrs.now in let here = c.loop.cut in
    let f = is_first frame addrs here c.read_operation.new.cut (oper_of c.in-Ok-Some.field-0-0) (rw c.in-Ok-Some.field-0-is at c.in-Ok-Some.ensures.taken) in
    c.loop.invariant.0 c.at-at.result (subst (λ at. StandsFirst frame addrs here at) (sym c.at-at.ensures) f)

pub loop-preserved : goal.loop-preserved
loop-preserved c =
    let frame = c.args.frame in let addrs = c.args.addrs.now in let here = c.loop.cut in let next = c.read_operation.new.cut in (
      (λ at f. c.loop.invariant.0 at (first_after frame addrs here next at (rw c.in-Ok-None.field-0-is at c.in-Ok-None.ensures.taken) f)),
      (λ n. c.loop.invariant.1 (none_after frame addrs here next (rw c.in-Ok-None.field-0-is at c.in-Ok-None.ensures.taken) n)),
    )

pub returns-in-Err-Refused-clause-first : goal.returns-in-Err-Refused-clause-first
returns-in-Err-Refused-clause-first c =
    let frame = c.args.frame in let addrs = c.args.addrs.now in
    c.loop.invariant.1 (none_by_fault frame addrs c.loop.cut c.in-Err-Refused.field-0-1 c.in-Err-Refused.field-0-0 (rw c.in-Err-Refused.field-0-is at c.in-Err-Refused.ensures.refused))
