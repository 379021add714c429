use Rattle.expr_eval.proofs.Fronts.{find_operands}
use Rattle.expr_eval.proofs.laws.operands_are_there.Goals as goal

pub returns : goal.returns
returns c = find_operands
