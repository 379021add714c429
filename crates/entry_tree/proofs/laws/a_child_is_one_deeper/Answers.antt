use Rattle.std.proofs.Common.{length}
use Rattle.entry_tree.proofs.Ways.{earlier, depth_step, none_counted}
use Rattle.entry_tree.proofs.laws.a_child_is_one_deeper.Goals as goal

pub returns : goal.returns
returns c = record {
  none = λ t. none_counted t (length t);
  deeper = λ t i order h. depth_step t (earlier t order) i h;
}
