use Rattle.std.proofs.Common.{◌≡◌, ◌∙◌, ◌%◌, ◌^◌, ap, drop, arith}
use Rattle.expr_eval.specs.Results.{little_endian}
use Rattle.expr_eval.proofs.Numbers.{whole_number}
use Rattle.expr_eval.proofs.lookups.little_endian.Goals as goal

pub returns-clause-whole : goal.returns-clause-whole
returns-clause-whole c = λ few.
    let start : c.loop-i.i ≡ 0 = omega arith in
    c.loop-i.invariant ∙ ap (λ i. little_endian (drop i c.args.bytes.now) % 2 ^ 64) start ∙ whole_number c.args.bytes.now (λ k. let byte = c.type_inv.bytes k in omega arith) few
