use Rattle.layout_set.specs.Laws.{laws}
use Rattle.layout_set.proofs.Firsts.{checks_say}
use Rattle.layout_model.proofs.Rows.{all_rises}
use Rattle.layout_model.proofs.checks.check.Goals as goal

pub returns : goal.returns
returns c = checks_say c.args.set.now (laws c.args.set.now) c.check_laws.result (all_rises c.args.set.now) c.check_laws.ensures
