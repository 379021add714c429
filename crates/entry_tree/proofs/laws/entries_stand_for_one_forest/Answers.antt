use Rattle.entry_tree.proofs.OneForest.{one_forest}
use Rattle.entry_tree.proofs.laws.entries_stand_for_one_forest.Goals as goal

pub returns : goal.returns
returns c = one_forest
