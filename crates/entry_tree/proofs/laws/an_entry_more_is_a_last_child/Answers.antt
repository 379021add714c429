use Rattle.entry_tree.proofs.OpenWays.{push_law}
use Rattle.entry_tree.proofs.laws.an_entry_more_is_a_last_child.Goals as goal

pub returns : goal.returns
returns c = push_law
