use Rattle.entry_tree.proofs.Nodes.{above_last}
use Rattle.entry_tree.proofs.search.is_above_last.Goals as goal

pub returns-in-Some : goal.returns-in-Some
returns-in-Some c = above_last c.args.nodes.now c.in-Some.last.now c.args.offset c.in-Some.ensures.value
