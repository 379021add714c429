-- What an iterator over children keeps.
use Rattle.std.specs.Prelude.{◌≡◌, ℕ, ◌<◌, List, length, Option, Some}
use Rattle.entry_tree.specs.declared.node.Node.{Node}
use Rattle.entry_tree.specs.Links.{Linked}

-- the nodes have the links of their parents, and the next child is one of them
pub record AreSiblings (nodes : List Node) (at : Option ℕ) : Type 0 where
  pub linked : Linked nodes
  pub there : (k : ℕ) → at ≡ Some k → k < length nodes
