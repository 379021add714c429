-- The links between entries, which follow from their parents: DWARF 5, 2.3.
use Rattle.std.specs.Prelude.{◌≡◌, ℕ, zero, suc, ◌+◌, Bool, if◌then◌else◌, List, [], ◌∷◌, drop, map, slice_get, Option, Some, None, option_and_then}
use Rattle.std.specs.Option.{option_map}
use Rattle.std.specs.List.{position_from}
use Rattle.entry_tree.specs.declared.node.Node.{Node}
use Rattle.entry_tree.specs.Entries.{Entry, has_parent}

-- the first entry whose parent is i
abbrev pub first_child : List Entry → ℕ → Option ℕ
first_child t i = position_from (has_parent (Some i)) 0 t

-- the first entry after entry i that has the same parent; after a root the next root
abbrev pub next_sibling : List Entry → ℕ → Option ℕ
next_sibling t i = option_and_then (λ e. position_from (has_parent e.up) (i + 1) (drop (i + 1) t)) (slice_get t i)

-- the places of the entries that pass a test, where the first entry has the place k
abbrev pub places_from : (Entry → Bool) → ℕ → List Entry → List ℕ
places_from test k [] = []
places_from test k (e ∷ t) = if test e then k ∷ places_from test (k + 1) t else places_from test (k + 1) t

-- all entries whose parent is i, rising
abbrev pub children_of : List Entry → ℕ → List ℕ
children_of t i = places_from (has_parent (Some i)) 0 t

-- entry k, which is e, and all entries after it that have the same parent
abbrev pub with_siblings : List Entry → ℕ → Option Entry → List ℕ
with_siblings t k None = []
with_siblings t k (Some e) = k ∷ places_from (has_parent e.up) (k + 1) (drop (k + 1) t)

-- an entry and all entries after it that have the same parent, or none
abbrev pub siblings_from : List Entry → Option ℕ → List ℕ
siblings_from t None = []
siblings_from t (Some k) = with_siblings t k (slice_get t k)

-- entry i with all its links
abbrev pub node_of : List Entry → ℕ → Option Node
node_of t i = option_map (λ e. record { offset = e.offset; unit = e.unit; code = e.code; tag = e.tag; first = first_child t i; next = next_sibling t i; up = e.up }) (slice_get t i)

-- a node without the links down and on
abbrev pub entry_of : Node → Entry
entry_of n = record { offset = n.offset; unit = n.unit; code = n.code; tag = n.tag; up = n.up }

-- all links are those that follow from the parents
abbrev pub Linked : List Node → Type 0
Linked nodes = (i : ℕ) → slice_get nodes i ≡ node_of (map entry_of nodes) i

-- the nodes, where the one at k, if there is one, is changed
abbrev pub changed_at : List Node → ℕ → (Node → Node) → List Node
changed_at [] k change = []
changed_at (n ∷ nodes) zero change = change n ∷ nodes
changed_at (n ∷ nodes) (suc k) change = n ∷ changed_at nodes k change

-- the nodes, where the sibling, or else the parent, is linked to this number
abbrev pub with_link : List Node → Option ℕ → Option ℕ → ℕ → List Node
with_link nodes under (Some sibling) number = changed_at nodes sibling (λ n. record n { next = Some number })
with_link nodes (Some parent) None number = changed_at nodes parent (λ n. record n { first = Some number })
with_link nodes None None number = nodes
