use Rattle.layout_carried.proofs.KeptLaws.{keeps_laws, keeps_names}
use Rattle.layout_carried.proofs.SameShown.{shows_same}
use Rattle.layout_carried.proofs.carried.cv_part.Goals as goal

pub returns-clause-same : goal.returns-clause-same
returns-clause-same c = shows_same c.args.set.now c.in_ok-part.part c.requires c.in_ok-part.ensures

pub returns-clause-lawful : goal.returns-clause-lawful
returns-clause-lawful c = keeps_laws c.args.set.now c.in_ok-part.part c.requires c.in_ok-part.ensures

pub returns-clause-named : goal.returns-clause-named
returns-clause-named c = λ h. keeps_names c.args.set.now c.in_ok-part.part h c.in_ok-part.ensures
