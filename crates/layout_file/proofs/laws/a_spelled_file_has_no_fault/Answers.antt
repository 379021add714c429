use Rattle.layout_reader.proofs.Faultless.{no_fault}
use Rattle.layout_reader.proofs.KnownLines.{lines_are_known}
use Rattle.layout_file.proofs.laws.a_spelled_file_has_no_fault.Goals as goal

pub returns : goal.returns
returns c = no_fault lines_are_known
