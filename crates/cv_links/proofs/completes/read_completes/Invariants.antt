use Rattle.std.proofs.Common.{take}
use Rattle.cv_links.specs.Named.{AreCompletes}
use Rattle.cv_links.proofs.completes.read_completes.Given as goal

-- the first records are found
abbrev pub invariant-loop-place : goal.invariant-loop-place
invariant-loop-place l = AreCompletes (take l.place l.records) l.completes
