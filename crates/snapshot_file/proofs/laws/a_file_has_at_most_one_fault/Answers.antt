use Rattle.snapshot_file.proofs.Faultless.{have_one_fault}
use Rattle.snapshot_file.proofs.laws.a_file_has_at_most_one_fault.Goals as goal

pub returns : goal.returns
returns c = have_one_fault
