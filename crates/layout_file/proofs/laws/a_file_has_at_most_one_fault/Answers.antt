use Rattle.layout_reader.proofs.KnownLines.{lines_are_known}
use Rattle.layout_reader.proofs.OneFault.{one_fault}
use Rattle.layout_file.proofs.laws.a_file_has_at_most_one_fault.Goals as goal

pub returns : goal.returns
returns c = one_fault lines_are_known
