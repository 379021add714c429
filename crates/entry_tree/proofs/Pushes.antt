-- The links after a push.
use Rattle.std.proofs.Common.{◌≡◌, ℕ, suc, ◌+◌, ◌-◌, ◌<◌, ◌≤◌, Bool, true, false, List, [], ◌∷◌, ◌++◌, length, drop, map, slice_get, Option, Some, None, option_and_then, refl, sym, ap, subst, ◌∙◌, arith, nat_eq, ◌⊎◌, inl, inr, length-drop, drop_of_length-le}
use Rattle.std.specs.Option.{option_eq, option_map}
use Rattle.std.specs.List.{position_from}
use Rattle.std.proofs.lemmas.Bool.{cases_lt}
use Rattle.entry_tree.specs.declared.node.Node.{Node}
use Rattle.entry_tree.specs.Entries.{Entry, has_parent, up_of, MayPush}
use Rattle.entry_tree.specs.Links.{first_child, next_sibling, node_of, entry_of, Linked, changed_at, with_link}
use Rattle.entry_tree.specs.Invariant.{AreInPrefixOrder, IsLastChild}
use Rattle.entry_tree.proofs.Finds.{eq_true, eq_self, eq_not, within, some_at, none_past, get_drop, drop_push, get_push, get_last, length_of_map, or_else, added, or_there, or_none, find_push, none_found, find_none}
use Rattle.entry_tree.proofs.Ways.{AreEarlier, earlier, order_push, length_push}
use Rattle.entry_tree.proofs.Nodes.{IsNodeAt, node_at}
use Rattle.entry_tree.proofs.Changes.{changed_here, changed_else, link_entries, map_push}

-- entry i, which is y, with its links
abbrev node : List Entry → ℕ → Entry → Node
node t i y = record { offset = y.offset; unit = y.unit; code = y.code; tag = y.tag; first = first_child t i; next = position_from (has_parent y.up) (i + 1) (drop (i + 1) t); up = y.up }

node_is : (t : List Entry) (i : ℕ) (y : Entry) → slice_get t i ≡ Some y → node_of t i ≡ Some (node t i y)
node_is t i y at = ap (λ o. option_map (λ e. record { offset = e.offset; unit = e.unit; code = e.code; tag = e.tag; first = first_child t i; next = option_and_then (λ z. position_from (has_parent z.up) (i + 1) (drop (i + 1) t)) o; up = e.up }) o) at

-- a node with other links down and on
abbrev relinked : Node → Option ℕ → Option ℕ → Node
relinked m first next = record { offset = m.offset; unit = m.unit; code = m.code; tag = m.tag; first = first; next = next; up = m.up }

same_links : (m : Node) (a b c d : Option ℕ) → a ≡ b → c ≡ d → relinked m a c ≡ relinked m b d
same_links m a b c d p q = ap (λ z. relinked m z c) p ∙ ap (λ z. relinked m b z) q

-- node i after entry e is added as the n-th
abbrev with_new : Entry → ℕ → ℕ → Node → Node
with_new e n i m = relinked m (or_else m.first (added (has_parent (Some i) e) n)) (or_else m.next (added (has_parent m.up e) n))

node_push : (t : List Entry) (e : Entry) (i : ℕ) → i < length t → node_of (t ++ e ∷ []) i ≡ option_map (with_new e (length t) i) (node_of t i)
node_push t e i h =
    let y = some_at t i h in
    let first : first_child (t ++ e ∷ []) i ≡ or_else (first_child t i) (added (has_parent (Some i) e) (length t)) =
    find_push (has_parent (Some i)) 0 t e ∙ ap (λ k. or_else (first_child t i) (added (has_parent (Some i) e) k)) (let q : 0 + length t ≡ length t = omega arith in q) in
    let next : position_from (has_parent y.0.up) (i + 1) (drop (i + 1) (t ++ e ∷ [])) ≡ or_else (position_from (has_parent y.0.up) (i + 1) (drop (i + 1) t)) (added (has_parent y.0.up e) (length t)) =
    ap (position_from (has_parent y.0.up) (i + 1)) (drop_push t (i + 1) e (omega arith)) ∙ find_push (has_parent y.0.up) (i + 1) (drop (i + 1) t) e ∙
    ap (λ k. or_else (position_from (has_parent y.0.up) (i + 1) (drop (i + 1) t)) (added (has_parent y.0.up e) k)) (let q : i + 1 + length (drop (i + 1) t) ≡ length t = omega (arith, length-drop (i + 1) t) in q) in
    node_is (t ++ e ∷ []) i y.0 (get_push t e i h ∙ y.1) ∙ ap (λ m. Some m) (same_links (node t i y.0) _ _ _ _ first next) ∙
    sym (ap (option_map (with_new e (length t) i)) (node_is t i y.0 y.1))

-- the new entry has no child and nothing after it
node_last : (t : List Entry) (e : Entry) → AreEarlier (t ++ e ∷ []) → node_of (t ++ e ∷ []) (length t) ≡ Some (record { offset = e.offset; unit = e.unit; code = e.code; tag = e.tag; first = None; next = None; up = e.up })
node_last t e h =
    let none : first_child (t ++ e ∷ []) (length t) ≡ None =
    find_none (has_parent (Some (length t))) 0 (t ++ e ∷ []) (λ j f at. eq_not f.up (Some (length t)) (λ q.
    let a = h j (length t) (ap (option_and_then (λ x. x.up)) at ∙ q) in
    let b = within (t ++ e ∷ []) j f at in
    omega (arith, length_push t e))) in
    let past : drop (length t + 1) (t ++ e ∷ []) ≡ [] = drop_of_length-le (t ++ e ∷ []) (omega (arith, length_push t e)) in
    node_is (t ++ e ∷ []) (length t) e (get_last t e) ∙
    ap (λ m. Some m) (same_links (node (t ++ e ∷ []) (length t) e) _ _ _ _ none (ap (position_from (has_parent e.up) (length t + 1)) past))

keeps : (o : Option ℕ) (n : ℕ) (t : Bool) → (t ≡ true → o ≡ None → ⊥) → o ≡ or_else o (added t n)
keeps o n true h = sym (or_there o (Some n) (h refl))
keeps o n false h = sym (or_none o)

gains : (o : Option ℕ) (n : ℕ) (t : Bool) → t ≡ true → o ≡ None → Some n ≡ or_else o (added t n)
gains o n t p q = sym (ap (λ z. or_else z (added t n)) q ∙ ap (λ b. added b n) p)

tells : (i k : ℕ) → (i ≡ k) ⊎ (i ≡ k → ⊥)
tells i k = by_case (cases_lt i k) (cases_lt k i)
  where
    by_case : (i < k) ⊎ (k ≤ i) → (k < i) ⊎ (i ≤ k) → (i ≡ k) ⊎ (i ≡ k → ⊥)
    by_case (inl a) b = inr (λ e. omega arith)
    by_case (inr a) (inl b) = inr (λ e. omega arith)
    by_case (inr a) (inr b) = inl (omega arith)

up_at : (t : List Entry) (i : ℕ) (y : Entry) → slice_get t i ≡ Some y → up_of t i ≡ y.up
up_at t i y at = ap (option_and_then (λ x. x.up)) at

-- no child of i was there, where entry e is its first one
first_stays : (t : List Entry) (e : Entry) (i k : ℕ) → k < length t → up_of t k ≡ e.up → has_parent (Some i) e ≡ true → first_child t i ≡ None → ⊥
first_stays t e i k h up p none =
    let y = some_at t k h in
    let same : y.0.up ≡ Some i = sym (up_at t k y.0 y.1) ∙ up ∙ eq_true e.up (Some i) p in
    let a : has_parent (Some i) y.0 ≡ true = ap (λ u. option_eq nat_eq u (Some i)) same ∙ eq_self (Some i) in
    let b = none_found (has_parent (Some i)) 0 t k y.0 y.1 none in
    cc

-- where k is the last entry with a parent, each other one that has it has a sibling after it
next_stays : (t : List Entry) (e : Entry) (i k : ℕ) (y : Entry) → IsLastChild t e.up (Some k) → slice_get t i ≡ Some y → (i ≡ k → ⊥) → has_parent y.up e ≡ true → position_from (has_parent y.up) (i + 1) (drop (i + 1) t) ≡ None → ⊥
next_stays t e i k y last at other p none = by_case (cases_lt i k)
  where
    same : e.up ≡ y.up
    same = eq_true e.up y.up p

    by_case : (i < k) ⊎ (k ≤ i) → ⊥
    by_case (inl l) =
        let z = some_at t k last.0 in
        let place : slice_get (drop (i + 1) t) (k - (i + 1)) ≡ Some z.0 = get_drop t (i + 1) (k - (i + 1)) ∙ ap (slice_get t) (let q : i + 1 + (k - (i + 1)) ≡ k = omega arith in q) ∙ z.1 in
        let up : z.0.up ≡ y.up = sym (up_at t k z.0 z.1) ∙ last.1 ∙ same in
        let a : has_parent y.up z.0 ≡ true = ap (λ u. option_eq nat_eq u y.up) up ∙ eq_self y.up in
        let b = none_found (has_parent y.up) (i + 1) (drop (i + 1) t) (k - (i + 1)) z.0 place none in
        cc
    by_case (inr l) = last.2 i (omega (arith, other)) (within t i y at) (up_at t i y at ∙ sym same)

-- the last entry with a parent has no sibling after it
none_behind : (t : List Entry) (u : Option ℕ) (k : ℕ) (y : Entry) → IsLastChild t u (Some k) → slice_get t k ≡ Some y → position_from (has_parent y.up) (k + 1) (drop (k + 1) t) ≡ None
none_behind t u k y last at =
    find_none (has_parent y.up) (k + 1) (drop (k + 1) t) (λ j f g.
    let place : slice_get t (k + 1 + j) ≡ Some f = sym (get_drop t (k + 1) j) ∙ g in
    eq_not f.up y.up (λ q. last.2 (k + 1 + j) (omega arith) (within t (k + 1 + j) f place) (up_at t (k + 1 + j) f place ∙ q ∙ sym (up_at t k y at) ∙ last.1)))

next_of : (t : List Entry) (i : ℕ) (n : Node) (at : IsNodeAt t i n) → n.next ≡ position_from (has_parent n.up) (i + 1) (drop (i + 1) t)
next_of t i n at =
    let up : at.entry.up ≡ n.up = sym (up_at t i at.entry at.at) ∙ sym at.up in
    at.next ∙ ap (option_and_then (λ z. position_from (has_parent z.up) (i + 1) (drop (i + 1) t))) at.at ∙
    ap (λ u. position_from (has_parent u) (i + 1) (drop (i + 1) t)) up

abbrev with_next : ℕ → Node → Node
with_next k n = record n { next = Some k }

abbrev with_first : ℕ → Node → Node
with_first k n = record n { first = Some k }

-- Each node is the one of before, with the new entry linked to it where that is the first one.
abbrev Grows : List Node → Entry → List Node → Type 0
Grows nodes e nodes' = (i : ℕ) (n : Node) → i < length nodes → slice_get nodes i ≡ Some n → IsNodeAt (map entry_of nodes) i n → slice_get nodes' i ≡ Some (with_new e (length nodes) i n)

-- the new entry comes after a sibling
grows_next : (nodes : List Node) (x : Node) (k : ℕ) → IsLastChild (map entry_of nodes) x.up (Some k) → Grows nodes (entry_of x) (changed_at (nodes ++ x ∷ []) k (with_next (length nodes)))
grows_next nodes x k last i n h there at = by_case (tells i k)
  where
    new_first : n.first ≡ or_else n.first (added (has_parent (Some i) (entry_of x)) (length nodes))
    new_first = keeps n.first (length nodes) (has_parent (Some i) (entry_of x)) (λ p none. first_stays (map entry_of nodes) (entry_of x) i k last.0 last.1 p (sym at.first ∙ none))

    up : at.entry.up ≡ n.up
    up = sym (up_at (map entry_of nodes) i at.entry at.at) ∙ sym at.up

    by_case : (i ≡ k) ⊎ (i ≡ k → ⊥) → slice_get (changed_at (nodes ++ x ∷ []) k (with_next (length nodes))) i ≡ Some (with_new (entry_of x) (length nodes) i n)
    by_case (inl e) =
        let here : slice_get (nodes ++ x ∷ []) i ≡ Some n = get_push nodes x i h ∙ there in
        let at_k : slice_get (map entry_of nodes) k ≡ Some at.entry = ap (slice_get (map entry_of nodes)) (sym e) ∙ at.at in
        let none : n.next ≡ None = at.next ∙ ap (option_and_then (λ z. position_from (has_parent z.up) (i + 1) (drop (i + 1) (map entry_of nodes)))) at.at ∙ ap (λ j. position_from (has_parent at.entry.up) (j + 1) (drop (j + 1) (map entry_of nodes))) e ∙ none_behind (map entry_of nodes) x.up k at.entry last at_k in
        let own : n.up ≡ x.up = at.up ∙ ap (up_of (map entry_of nodes)) e ∙ last.1 in
        let on : has_parent n.up (entry_of x) ≡ true = ap (λ u. option_eq nat_eq u n.up) (sym own) ∙ eq_self n.up in
        ap (λ j. slice_get (changed_at (nodes ++ x ∷ []) j (with_next (length nodes))) i) (sym e) ∙
        changed_here (nodes ++ x ∷ []) i (with_next (length nodes)) ∙
        ap (option_map (with_next (length nodes))) here ∙
        ap (λ m. Some m) (same_links n _ _ _ _ new_first (gains n.next (length nodes) (has_parent n.up (entry_of x)) on none))
    by_case (inr e) =
        changed_else (nodes ++ x ∷ []) k i (with_next (length nodes)) e ∙ get_push nodes x i h ∙ there ∙
        ap (λ m. Some m) (same_links n n.first _ n.next _ new_first (keeps n.next (length nodes) (has_parent n.up (entry_of x)) (λ p none. next_stays (map entry_of nodes) (entry_of x) i k at.entry last at.at e (ap (λ u. option_eq nat_eq x.up u) up ∙ p) (ap (λ u. position_from (has_parent u) (i + 1) (drop (i + 1) (map entry_of nodes))) up ∙ sym (next_of (map entry_of nodes) i n at) ∙ none))))

-- where no entry has the new one's parent, nothing links on to it
next_alone : (nodes : List Node) (x n : Node) (i : ℕ) → IsLastChild (map entry_of nodes) x.up None → i < length nodes → IsNodeAt (map entry_of nodes) i n → n.next ≡ or_else n.next (added (has_parent n.up (entry_of x)) (length nodes))
next_alone nodes x n i last h at =
    keeps n.next (length nodes) (has_parent n.up (entry_of x)) (λ p none. last i (omega (arith, length_of_map entry_of nodes)) (sym at.up ∙ sym (eq_true x.up n.up p)))

-- the new entry is the first child
grows_first : (nodes : List Node) (x : Node) (k : ℕ) → x.up ≡ Some k → IsLastChild (map entry_of nodes) x.up None → Grows nodes (entry_of x) (changed_at (nodes ++ x ∷ []) k (with_first (length nodes)))
grows_first nodes x k child last i n h there at = by_case (tells i k)
  where
    by_case : (i ≡ k) ⊎ (i ≡ k → ⊥) → slice_get (changed_at (nodes ++ x ∷ []) k (with_first (length nodes))) i ≡ Some (with_new (entry_of x) (length nodes) i n)
    by_case (inl e) =
        let here : slice_get (nodes ++ x ∷ []) i ≡ Some n = get_push nodes x i h ∙ there in
        let is : x.up ≡ Some i = child ∙ ap (λ j. Some j) (sym e) in
        let none : n.first ≡ None = at.first ∙ find_none (has_parent (Some i)) 0 (map entry_of nodes) (λ j f g. eq_not f.up (Some i) (λ q. last j (within (map entry_of nodes) j f g) (up_at (map entry_of nodes) j f g ∙ q ∙ sym is))) in
        let on : has_parent (Some i) (entry_of x) ≡ true = ap (λ u. option_eq nat_eq u (Some i)) is ∙ eq_self (Some i) in
        ap (λ j. slice_get (changed_at (nodes ++ x ∷ []) j (with_first (length nodes))) i) (sym e) ∙
        changed_here (nodes ++ x ∷ []) i (with_first (length nodes)) ∙
        ap (option_map (with_first (length nodes))) here ∙
        ap (λ m. Some m) (same_links n _ _ _ _ (gains n.first (length nodes) (has_parent (Some i) (entry_of x)) on none) (next_alone nodes x n i last h at))
    by_case (inr e) =
        changed_else (nodes ++ x ∷ []) k i (with_first (length nodes)) e ∙ get_push nodes x i h ∙ there ∙
        ap (λ m. Some m) (same_links n n.first _ n.next _ (keeps n.first (length nodes) (has_parent (Some i) (entry_of x)) (λ p none. e (let q : Some i ≡ Some k = sym (eq_true x.up (Some i) p) ∙ child in cc))) (next_alone nodes x n i last h at))

-- the new entry is the first of all
grows_root : (nodes : List Node) (x : Node) → x.up ≡ None → IsLastChild (map entry_of nodes) x.up None → Grows nodes (entry_of x) (nodes ++ x ∷ [])
grows_root nodes x root last i n h there at =
    get_push nodes x i h ∙ there ∙
    ap (λ m. Some m) (same_links n n.first _ n.next _ (keeps n.first (length nodes) (has_parent (Some i) (entry_of x)) (λ p none. let q : Some i ≡ None = sym (eq_true x.up (Some i) p) ∙ root in cc)) (next_alone nodes x n i last h at))

grows : (nodes : List Node) (x : Node) (u sibling : Option ℕ) → x.up ≡ u → IsLastChild (map entry_of nodes) u sibling → Grows nodes (entry_of x) (with_link (nodes ++ x ∷ []) u sibling (length nodes))
grows nodes x u (Some k) up last = grows_next nodes x k (subst (λ v. IsLastChild (map entry_of nodes) v (Some k)) (sym up) last)
grows nodes x (Some k) None up last = grows_first nodes x k up (subst (λ v. IsLastChild (map entry_of nodes) v None) (sym up) last)
grows nodes x None None up last = grows_root nodes x up (subst (λ v. IsLastChild (map entry_of nodes) v None) (sym up) last)

last_unlinked : (nodes : List Node) (x : Node) (u sibling : Option ℕ) → MayPush (map entry_of nodes) u → IsLastChild (map entry_of nodes) u sibling → slice_get (with_link (nodes ++ x ∷ []) u sibling (length nodes)) (length nodes) ≡ Some x
last_unlinked nodes x u (Some k) may last =
    let lt = last.0 in
    changed_else (nodes ++ x ∷ []) k (length nodes) (with_next (length nodes)) (λ e. omega (arith, length_of_map entry_of nodes)) ∙ get_last nodes x
last_unlinked nodes x (Some k) None may last =
    let lt = may.0 in
    changed_else (nodes ++ x ∷ []) k (length nodes) (with_first (length nodes)) (λ e. omega (arith, length_of_map entry_of nodes)) ∙ get_last nodes x
last_unlinked nodes x None None may last = get_last nodes x

-- the entries after a push
pub pushed_entries : (nodes : List Node) (x : Node) (u sibling : Option ℕ) (k : ℕ) → map entry_of (with_link (nodes ++ x ∷ []) u sibling k) ≡ map entry_of nodes ++ entry_of x ∷ []
pushed_entries nodes x u sibling k = link_entries (nodes ++ x ∷ []) u sibling k ∙ map_push nodes x

-- after a push all links are those of the parents
pub linked_push : (nodes : List Node) (x : Node) (u sibling : Option ℕ) → Linked nodes → AreInPrefixOrder (map entry_of nodes) → MayPush (map entry_of nodes) u → IsLastChild (map entry_of nodes) u sibling → x.up ≡ u → x.first ≡ None → x.next ≡ None
    → Linked (with_link (nodes ++ x ∷ []) u sibling (length nodes))
linked_push nodes x u sibling linked order may last up first next i =
    by_case (cases_lt i (length nodes)) ∙ ap (λ l. node_of l i) (sym (pushed_entries nodes x u sibling (length nodes)))
  where
    size : length (map entry_of nodes) ≡ length nodes
    size = length_of_map entry_of nodes

    old : i < length nodes → slice_get (with_link (nodes ++ x ∷ []) u sibling (length nodes)) i ≡ node_of (map entry_of nodes ++ entry_of x ∷ []) i
    old h =
        let n = some_at nodes i h in
        let is : node_of (map entry_of nodes) i ≡ Some n.0 = sym (linked i) ∙ n.1 in
        grows nodes x u sibling up last i n.0 h n.1 (node_at (map entry_of nodes) i n.0 is) ∙ ap (λ k. Some (with_new (entry_of x) k i n.0)) (sym size) ∙
        ap (option_map (with_new (entry_of x) (length (map entry_of nodes)) i)) (sym is) ∙ sym (node_push (map entry_of nodes) (entry_of x) i (omega (arith, size)))

    new : i ≡ length nodes → slice_get (with_link (nodes ++ x ∷ []) u sibling (length nodes)) i ≡ node_of (map entry_of nodes ++ entry_of x ∷ []) i
    new e =
        ap (slice_get (with_link (nodes ++ x ∷ []) u sibling (length nodes))) e ∙ last_unlinked nodes x u sibling may last ∙
        ap (λ m. Some m) (same_links x x.first _ x.next _ first next) ∙
        sym (node_last (map entry_of nodes) (entry_of x) (earlier (map entry_of nodes ++ entry_of x ∷ []) (order_push (map entry_of nodes) (entry_of x) order (subst (MayPush (map entry_of nodes)) (sym up) may)))) ∙
        ap (node_of (map entry_of nodes ++ entry_of x ∷ [])) (size ∙ sym e)

    past : length nodes < i → slice_get (with_link (nodes ++ x ∷ []) u sibling (length nodes)) i ≡ node_of (map entry_of nodes ++ entry_of x ∷ []) i
    past h =
        let none : slice_get (map entry_of nodes ++ entry_of x ∷ []) i ≡ None = none_past (map entry_of nodes ++ entry_of x ∷ []) i (omega (arith, size, length_push (map entry_of nodes) (entry_of x))) in
        let more : length (with_link (nodes ++ x ∷ []) u sibling (length nodes)) ≡ suc (length nodes) =
        sym (length_of_map entry_of (with_link (nodes ++ x ∷ []) u sibling (length nodes))) ∙ ap length (pushed_entries nodes x u sibling (length nodes)) ∙ length_push (map entry_of nodes) (entry_of x) ∙ ap suc size in
        none_past (with_link (nodes ++ x ∷ []) u sibling (length nodes)) i (omega (arith, more)) ∙
        sym (ap (λ o. option_map (λ e. record { offset = e.offset; unit = e.unit; code = e.code; tag = e.tag; first = first_child (map entry_of nodes ++ entry_of x ∷ []) i; next = next_sibling (map entry_of nodes ++ entry_of x ∷ []) i; up = e.up }) o) none)

    by_case : (i < length nodes) ⊎ (length nodes ≤ i) → slice_get (with_link (nodes ++ x ∷ []) u sibling (length nodes)) i ≡ node_of (map entry_of nodes ++ entry_of x ∷ []) i
    by_case (inl h) = old h
    by_case (inr h) = by_end (cases_lt (length nodes) i)
      where
        by_end : (length nodes < i) ⊎ (i ≤ length nodes) → slice_get (with_link (nodes ++ x ∷ []) u sibling (length nodes)) i ≡ node_of (map entry_of nodes ++ entry_of x ∷ []) i
        by_end (inl l) = past l
        by_end (inr l) = new (omega arith)
