-- Where the next entry of a section may come.
use Rattle.std.specs.Prelude.{ℕ, List, Option}
use Rattle.entry_tree.specs.Entries.{Entry as Node, MayPush, IsAboveLast}
use Rattle.entry_tree.specs.Invariant.{AreInPrefixOrder}

-- after these entries, which are in prefix order, one that begins at this place may come below this one
pub record MayFollow (t : List Node) (under : Option ℕ) (at : ℕ) : Type 0 where
  pub order : AreInPrefixOrder t
  pub place : MayPush t under
  pub above : IsAboveLast t at
