use Rattle.std.proofs.Common.{length}
use Rattle.layout_reader.specs.Progress.{HasRead}
use Rattle.layout_reader.proofs.reader.read.Given as goal

abbrev pub invariant-loop-line : goal.invariant-loop-line
invariant-loop-line l = HasRead l.bytes l.reading l.rest

abbrev pub decreases-loop-line : goal.decreases-loop-line
decreases-loop-line l = length l.rest
