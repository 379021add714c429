-- The readers of offsets and texts are exact.
use Rattle.dwarf_lists.proofs.Indexed.{one_answer}
use Rattle.dwarf_lists.proofs.laws.an_index_has_one_answer.Goals as goal

pub returns : goal.returns
returns c = one_answer
