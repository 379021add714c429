-- The records stand one after the other.
use Rattle.cv_type_writer.proofs.Sections.{section_read}
use Rattle.cv_type_writer.proofs.laws.written_types_are_read.Goals as goal

pub returns : goal.returns
returns c = section_read
