-- Nodes of which one is changed.
use Rattle.std.proofs.Common.{◌≡◌, ℕ, zero, suc, ◌≤◌, List, [], ◌∷◌, ◌++◌, length, map, set, get_or, slice_get, Option, Some, None, refl, ap, arith}
use Rattle.std.specs.Option.{option_map}
use Rattle.entry_tree.specs.declared.node.Node.{Node}
use Rattle.entry_tree.specs.Links.{entry_of, changed_at, with_link}

pub changed_set : (nodes : List Node) (k : ℕ) (n : Node) (change : Node → Node) → n ≡ get_or nodes k n → set nodes k (change n) ≡ changed_at nodes k change
changed_set [] k n change e = refl
changed_set (x ∷ nodes) zero n change e = ap (λ y. change y ∷ nodes) e
changed_set (x ∷ nodes) (suc k) n change e = ap (λ l. x ∷ l) (changed_set nodes k n change e)

pub changed_past : (nodes : List Node) (k : ℕ) (change : Node → Node) → length nodes ≤ k → nodes ≡ changed_at nodes k change
changed_past [] k change h = refl
changed_past (x ∷ nodes) zero change h = absurd (omega arith)
changed_past (x ∷ nodes) (suc k) change h = ap (λ l. x ∷ l) (changed_past nodes k change (omega arith))

pub changed_here : (nodes : List Node) (k : ℕ) (change : Node → Node) → slice_get (changed_at nodes k change) k ≡ option_map change (slice_get nodes k)
changed_here [] k change = refl
changed_here (x ∷ nodes) zero change = refl
changed_here (x ∷ nodes) (suc k) change = changed_here nodes k change

pub changed_else : (nodes : List Node) (k i : ℕ) (change : Node → Node) → (i ≡ k → ⊥) → slice_get (changed_at nodes k change) i ≡ slice_get nodes i
changed_else [] k i change h = refl
changed_else (x ∷ nodes) zero zero change h = absurd (h refl)
changed_else (x ∷ nodes) zero (suc i) change h = refl
changed_else (x ∷ nodes) (suc k) zero change h = refl
changed_else (x ∷ nodes) (suc k) (suc i) change h = changed_else nodes k i change (λ e. h (ap suc e))

same_entries : (nodes : List Node) (k : ℕ) (change : Node → Node) → ((n : Node) → entry_of (change n) ≡ entry_of n) → map entry_of (changed_at nodes k change) ≡ map entry_of nodes
same_entries [] k change h = refl
same_entries (x ∷ nodes) zero change h = ap (λ e. e ∷ map entry_of nodes) (h x)
same_entries (x ∷ nodes) (suc k) change h = ap (λ l. entry_of x ∷ l) (same_entries nodes k change h)

-- a link changes no entry
pub link_entries : (nodes : List Node) (under sibling : Option ℕ) (number : ℕ) → map entry_of (with_link nodes under sibling number) ≡ map entry_of nodes
link_entries nodes under (Some k) number = same_entries nodes k (λ n. record n { next = Some number }) (λ n. refl)
link_entries nodes (Some k) None number = same_entries nodes k (λ n. record n { first = Some number }) (λ n. refl)
link_entries nodes None None number = refl

pub map_push : (nodes : List Node) (x : Node) → map entry_of (nodes ++ x ∷ []) ≡ map entry_of nodes ++ entry_of x ∷ []
map_push [] x = refl
map_push (y ∷ nodes) x = ap (λ l. entry_of y ∷ l) (map_push nodes x)
