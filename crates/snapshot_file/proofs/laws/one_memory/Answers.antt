use Rattle.snapshot_file.proofs.Canonical.{same_runs}
use Rattle.snapshot_file.proofs.laws.one_memory.Goals as goal

pub returns : goal.returns
returns c = λ runs others h k same. same_runs 0 runs others h k same
