use Rattle.entry_tree.proofs.OpenWays.{forest_law}
use Rattle.entry_tree.proofs.laws.entries_stand_for_a_forest.Goals as goal

pub returns : goal.returns
returns c = forest_law
