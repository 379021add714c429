-- They say no place.
use Rattle.expr_reader.proofs.Nexts.{last_answer}
use Rattle.expr_reader.proofs.reader.place_of.Goals as goal

pub returns-in-None-clause-refused : goal.returns-in-None-clause-refused
returns-in-None-clause-refused c = last_answer c.args.opers.now c.args.last c.in_ok-place.field-0 c.refused.result c.if-is_empty.ensures c.in_ok-place.ensures c.in-None.is c.refused.ensures
