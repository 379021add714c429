-- What is refused stands in the expression.
use Rattle.std.proofs.Common.{arith}
use Rattle.dwarf_locations.proofs.Totals.{refusal_inside}
use Rattle.dwarf_locations.proofs.said.read_expression.Goals as goal

pub overflow_add-result : goal.overflow_add-result
overflow_add-result c =
    let e = c.in-Err-Refused in
    let w = refusal_inside c.args.frame c.args.addrs.now c.args.expression.bytes.now e.field-0 e.offset e.rule c.args.expression.offset c.requires e.ensures.refused e.field-0-is in
    omega (arith, w)
