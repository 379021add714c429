-- The forest that a list of entries in prefix order stands for: DWARF 5, 2.3.
use Rattle.std.specs.Prelude.{◌≡◌, ℕ, ◌+◌, ◌==◌, if◌then◌else◌, List, [], ◌∷◌, ◌++◌, Option, Some, None}
use Rattle.entry_tree.specs.Entries.{Entry, new_entry, MayPush}
use Rattle.entry_tree.specs.Invariant.{AreInPrefixOrder}

-- no tree; or a first root with the forest of its children, and the forest of the trees after it
pub data Forest : Type 0 where
  empty : Forest
  root : (offset unit code tag : ℕ) → (children behind : Forest) → Forest

-- how many entries a forest has
abbrev pub size_of : Forest → ℕ
size_of empty = 0
size_of (root offset unit code tag children behind) = 1 + size_of children + size_of behind

-- the entries of a forest in prefix order, where the roots have this parent and the first root has the number k
abbrev pub in_preorder : Option ℕ → ℕ → Forest → List Entry
in_preorder up k empty = []
in_preorder up k (root offset unit code tag children behind) =
    new_entry up offset unit code tag ∷
    (in_preorder (Some k) (k + 1) children ++ in_preorder up (k + 1 + size_of children) behind)

-- the list has the entries of the forest in prefix order, numbered from 0, each with the number of its parent
abbrev pub StandsFor : List Entry → Forest → Type 0
StandsFor t forest = t ≡ in_preorder None 0 forest

-- the forest with one root more, after all others
abbrev pub with_last_root : Entry → Forest → Forest
with_last_root e empty = root e.offset e.unit e.code e.tag empty empty
with_last_root e (root offset unit code tag children behind) = root offset unit code tag children (with_last_root e behind)

-- the forest, whose first root has the number k, with one child more of entry i, after all its others
abbrev pub with_child_from : ℕ → ℕ → Entry → Forest → Forest
with_child_from k i e empty = empty
with_child_from k i e (root offset unit code tag children behind) =
    if i == k then root offset unit code tag (with_last_root e children) behind
    else root offset unit code tag (with_child_from (k + 1) i e children) (with_child_from (k + 1 + size_of children) i e behind)

-- the forest with one entry more: the last child of entry i, or the last root
abbrev pub with_last_child : Option ℕ → Entry → Forest → Forest
with_last_child None e forest = with_last_root e forest
with_last_child (Some i) e forest = with_child_from 0 i e forest

-- entries in prefix order stand for a forest, and those of a forest are in prefix order
pub record StandForAForest : Type 0 where
  pub some : (t : List Entry) → AreInPrefixOrder t → (forest : Forest) × StandsFor t forest
  pub each : (t : List Entry) (forest : Forest) → StandsFor t forest → AreInPrefixOrder t

-- a list stands for one forest at most
abbrev pub StandForOneForest : Type 0
StandForOneForest = (t : List Entry) (a b : Forest) → StandsFor t a → StandsFor t b → a ≡ b

-- One entry more is the last child of its parent, or the last root, and all others keep their places.
abbrev pub PushLastChildren : Type 0
PushLastChildren = (t : List Entry) (e : Entry) (forest : Forest) → AreInPrefixOrder t → MayPush t e.up → StandsFor t forest
    → StandsFor (t ++ e ∷ []) (with_last_child e.up e forest)
