use Rattle.std.proofs.Common.{◌≡◌, length}
use Rattle.readers.specs.Lines.{lines}
use Rattle.snapshot_file.specs.Reading.{steps, start}
use Rattle.snapshot_file.proofs.snapshot.read_snapshot.Given as goal

abbrev pub invariant-loop-line : goal.invariant-loop-line
invariant-loop-line l = steps l.reading (lines l.rest) ≡ steps start (lines l.bytes)

abbrev pub decreases-loop-line : goal.decreases-loop-line
decreases-loop-line l = length l.rest
