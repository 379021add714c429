use Rattle.cv_names.proofs.CvLevels.{ends_last}
use Rattle.cv_names.proofs.cv.ends_closed.Goals as goal

pub returns-in-len1-up : goal.returns-in-len1-up
returns-in-len1-up c = ends_last c.args.text.now c.in-len1-up.len_at_least
