-- One by itself, else an expression.
use Rattle.std.proofs.Common.{map}
use Rattle.expr_bytes.specs.Operations.{oper_of}
use Rattle.expr_reader.proofs.Begins.{expression_says, neither_says}
use Rattle.expr_reader.proofs.say.say_place.Goals as goal

pub returns-in-Some-2 : goal.returns-in-Some-2
returns-in-Some-2 c = expression_says (map oper_of c.args.opers.now) c.in-Some-2.ops (rw c.in_default.is at c.in_ok-place.ensures) (rw c.in-Some-2.is at c.in_ok-ops.ensures)

pub returns-in-None : goal.returns-in-None
returns-in-None c = neither_says (map oper_of c.args.opers.now) (rw c.in_default.is at c.in_ok-place.ensures) (rw c.in-None.is at c.in_ok-ops.ensures)
