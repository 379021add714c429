use Rattle.cv_names.proofs.CvWhole as cv
use Rattle.cv_names.proofs.read.one_cv_name.Goals as goal

pub returns : goal.returns
returns c = cv.one_cv_name
