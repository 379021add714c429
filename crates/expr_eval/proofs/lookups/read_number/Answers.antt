use Rattle.expr_eval.proofs.Numbers.{read_is, read_misses}
use Rattle.expr_eval.proofs.lookups.read_number.Goals as goal

pub returns-in-Some : goal.returns-in-Some
returns-in-Some c =
    let bytes = rw c.from.ensures at c.in-Some.ensures in
    read_is c.args.mem.now c.args.at c.args.width c.little_endian.result c.in-Some.bytes.now bytes c.little_endian.ensures.wrapped

pub returns-in-None : goal.returns-in-None
returns-in-None c =
    let bytes = rw c.from.ensures at c.in-None.ensures in
    read_misses c.args.mem.now c.args.at c.args.width bytes
