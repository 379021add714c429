use Rattle.names.specs.Names.{whole}
use Rattle.cv_names.proofs.CvSpelled.{cv_spelled, cv_stands}
use Rattle.cv_names.proofs.read.proper_names_have_cv_spellings.Goals as goal

pub returns : goal.returns
returns c = record { spelled = λ n h. cv_spelled 64 whole n h; proper = λ n t h. cv_stands 64 whole n t h }
