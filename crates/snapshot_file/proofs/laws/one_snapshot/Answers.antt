use Rattle.snapshot_file.proofs.SpelledFiles.{same_snapshot}
use Rattle.snapshot_file.proofs.laws.one_snapshot.Goals as goal

pub returns : goal.returns
returns c = same_snapshot
