use Rattle.std.proofs.Common.{drop}
use Rattle.cv_constants.specs.Sites.{AreShown}
use Rattle.cv_constants.proofs.sites.outside_sites.Given as goal

-- the last symbols are done
abbrev pub invariant-loop-at : goal.invariant-loop-at
invariant-loop-at l = AreShown (drop l.at l.symbols) l.shown
