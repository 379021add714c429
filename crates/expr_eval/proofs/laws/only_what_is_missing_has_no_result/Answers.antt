use Rattle.expr_eval.proofs.Missing.{lack_only_missing}
use Rattle.expr_eval.proofs.laws.only_what_is_missing_has_no_result.Goals as goal

pub returns : goal.returns
returns c = lack_only_missing
