use Rattle.layout_reader.proofs.EveryFile.{have_reading}
use Rattle.layout_file.proofs.laws.a_file_is_spelled_or_at_fault.Goals as goal

pub returns : goal.returns
returns c = have_reading
