-- What holds of every tree: prefix order, rising offsets, a greatest depth and count, and the links of the parents.
use Rattle.std.specs.Prelude.{◌≡◌, ◌≢◌, ℕ, ◌+◌, ◌<◌, ◌≤◌, List, length, take, map, slice_get, Option, Some, None}
use Rattle.entry_tree.specs.declared.node.Node.{Node}
use Rattle.entry_tree.specs.declared.search.Insertion.{Insertion}
use Rattle.entry_tree.specs.Entries.{Entry, up_of, last_of, MayPush, depth_of}
use Rattle.entry_tree.specs.Links.{entry_of, Linked}

-- the parent of each entry is none, or on the way from the entry before it to its root
abbrev pub AreInPrefixOrder : List Entry → Type 0
AreInPrefixOrder t = (i : ℕ) → i < length t → MayPush (take i t) (up_of t i)

-- entries in prefix order, with rising offsets, none of them deeper than 256, and no more than 8,000,000
pub record AreEntries (t : List Entry) : Type 0 where
  pub order : AreInPrefixOrder t
  pub rising : (i j : ℕ) (e f : Entry) → i < j → slice_get t i ≡ Some e → slice_get t j ≡ Some f → e.offset < f.offset
  pub shallow : (i : ℕ) → i < length t → depth_of t (Some i) ≤ 256
  pub few : length t ≤ 8000000

-- the nodes are such entries, with the links that follow from their parents, and the last one has this depth
pub record IsTree (nodes : List Node) (depth : ℕ) : Type 0 where
  pub entries : AreEntries (map entry_of nodes)
  pub linked : Linked nodes
  pub last : depth ≡ depth_of (map entry_of nodes) (last_of (map entry_of nodes))

-- the sibling is the last entry with the parent u, or none where no entry has it
abbrev pub IsLastChild : List Entry → Option ℕ → Option ℕ → Type 0
IsLastChild t u None = (i : ℕ) → i < length t → up_of t i ≢ u
IsLastChild t u (Some k) = (k < length t) × (up_of t k ≡ u) × ((i : ℕ) → k < i → i < length t → up_of t i ≢ u)

-- a new child of u comes after this sibling, and has this depth
pub record IsInsertion (t : List Entry) (u : Option ℕ) (insertion : Insertion) : Type 0 where
  pub sibling : IsLastChild t u insertion.sibling
  pub depth : insertion.depth ≡ depth_of t u + 1

-- None has no depth, and each entry is one deeper than its parent. These two equations determine `depth`.
pub record IsByParent (depth : List Entry → Option ℕ → ℕ) : Type 0 where
  pub none : (t : List Entry) → depth t None ≡ 0
  pub deeper : (t : List Entry) (i : ℕ) → AreInPrefixOrder t → i < length t → depth t (Some i) ≡ depth t (up_of t i) + 1
