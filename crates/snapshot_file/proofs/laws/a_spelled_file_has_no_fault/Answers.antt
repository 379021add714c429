use Rattle.snapshot_file.proofs.Faultless.{have_no_fault}
use Rattle.snapshot_file.proofs.laws.a_spelled_file_has_no_fault.Goals as goal

pub returns : goal.returns
returns c = have_no_fault
