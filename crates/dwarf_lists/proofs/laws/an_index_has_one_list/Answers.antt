-- An index has at most one offset.
use Rattle.dwarf_lists.proofs.Indexed.{one_list}
use Rattle.dwarf_lists.proofs.laws.an_index_has_one_list.Goals as goal

pub returns : goal.returns
returns c = one_list
