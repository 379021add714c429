use Rattle.snapshot_file.proofs.FileFaults.{is_reading}
use Rattle.snapshot_file.proofs.file.read.Goals as goal

pub returns : goal.returns
returns c = is_reading c.args.bytes.now c.read_snapshot.result c.read_snapshot.ensures
