use Rattle.layout_builder.proofs.Following.{one_set}
use Rattle.layout_reader.proofs.KnownLines.{lines_are_known}
use Rattle.layout_file.proofs.laws.a_file_spells_one_set.Goals as goal

pub returns : goal.returns
returns c = one_set lines_are_known
