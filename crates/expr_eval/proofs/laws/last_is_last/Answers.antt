use Rattle.expr_eval.proofs.Runs.{last_determines}
use Rattle.expr_eval.proofs.laws.last_is_last.Goals as goal

pub returns : goal.returns
returns c = last_determines
