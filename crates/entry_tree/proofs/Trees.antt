-- A tree after a push.
use Rattle.std.proofs.Common.{◌≡◌, ℕ, ◌+◌, ◌-◌, ◌<◌, ◌≤◌, List, [], ◌∷◌, ◌++◌, length, map, slice_get, Option, Some, None, sym, ap, subst, ◌∙◌, arith, ◌⊎◌, inl, inr}
use Rattle.std.proofs.lemmas.Bool.{cases_lt}
use Rattle.entry_tree.specs.declared.node.Node.{Node}
use Rattle.entry_tree.specs.declared.search.Insertion.{Insertion}
use Rattle.entry_tree.specs.Entries.{Entry, last_of, MayPush, IsAboveLast, depth_of}
use Rattle.entry_tree.specs.Links.{entry_of, with_link}
use Rattle.entry_tree.specs.Invariant.{AreInPrefixOrder, AreEntries, IsTree, IsInsertion}
use Rattle.entry_tree.proofs.Finds.{within, some_at, get_push, get_last, length_of_map}
use Rattle.entry_tree.proofs.Ways.{earlier, depth_step, depth_push, length_push, may_push_below, order_push, last_is, up_last, none_counted}
use Rattle.entry_tree.proofs.Pushes.{linked_push, pushed_entries}

-- the depth of the new entry
last_depth : (t : List Entry) (e : Entry) → AreInPrefixOrder t → MayPush t e.up → depth_of (t ++ e ∷ []) (Some (length t)) ≡ depth_of t e.up + 1
last_depth t e order may =
    depth_step (t ++ e ∷ []) (earlier (t ++ e ∷ []) (order_push t e order may)) (length t) (omega (arith, length_push t e)) ∙
    ap (λ u. depth_of (t ++ e ∷ []) u + 1) (up_last t e) ∙ ap (λ d. d + 1) (depth_push t e (earlier t order) e.up (may_push_below t e.up may))

all_below : (t : List Entry) (offset : ℕ) → AreEntries t → IsAboveLast t offset → (i : ℕ) (e : Entry) → slice_get t i ≡ Some e → e.offset < offset
all_below t offset entries above i e at = by_case (cases_lt i (length t - 1))
  where
    by_case : (i < length t - 1) ⊎ (length t - 1 ≤ i) → e.offset < offset
    by_case (inl h) =
        let l = some_at t (length t - 1) (let w = within t i e at in omega arith) in
        let a = entries.rising i (length t - 1) e l.0 h at l.1 in
        let b = above l.0 l.1 in
        omega arith
    by_case (inr h) =
        let w = within t i e at in
        above e (ap (slice_get t) (let q : length t - 1 ≡ i = omega arith in q) ∙ at)

pub entries_push : (t : List Entry) (e : Entry) → AreEntries t → MayPush t e.up → IsAboveLast t e.offset → depth_of t e.up + 1 ≤ 256 → length t < 8000000 → AreEntries (t ++ e ∷ [])
entries_push t e entries may above deep few = record {
  order = order_push t e entries.order may;
  rising = λ i j a b lt p q. rising i j a b lt p q (cases_lt j (length t));
  shallow = λ i h. shallow i h (cases_lt i (length t));
  few = omega (arith, length_push t e);
}
  where
    rising : (i j : ℕ) (a b : Entry) → i < j → slice_get (t ++ e ∷ []) i ≡ Some a → slice_get (t ++ e ∷ []) j ≡ Some b → (j < length t) ⊎ (length t ≤ j) → a.offset < b.offset
    rising i j a b lt p q (inl h) = entries.rising i j a b lt (sym (get_push t e i (omega arith)) ∙ p) (sym (get_push t e j h) ∙ q)
    rising i j a b lt p q (inr h) =
        let w = within (t ++ e ∷ []) j b q in
        let place : length t ≡ j = omega (arith, length_push t e) in
        let same : Some e ≡ Some b = sym (get_last t e) ∙ ap (slice_get (t ++ e ∷ [])) place ∙ q in
        let is : e ≡ b = cc in
        let o = ap (λ (x : Entry). x.offset) is in
        let l = all_below t e.offset entries above i a (sym (get_push t e i (omega arith)) ∙ p) in
        omega arith

    shallow : (i : ℕ) → i < length (t ++ e ∷ []) → (i < length t) ⊎ (length t ≤ i) → depth_of (t ++ e ∷ []) (Some i) ≤ 256
    shallow i h (inl l) =
        let a = entries.shallow i l in
        let b = depth_push t e (earlier t entries.order) (Some i) (λ k q. let is : i ≡ k = cc in omega arith) in
        omega arith
    shallow i h (inr l) =
        let place : i ≡ length t = omega (arith, length_push t e) in
        let a = ap (λ k. depth_of (t ++ e ∷ []) (Some k)) place in
        let b = last_depth t e entries.order may in
        omega arith

-- a push keeps all that holds of a tree
pub tree_push : (nodes nodes' : List Node) (x : Node) (depth n : ℕ) (u : Option ℕ) (insertion : Insertion) → IsTree nodes depth → MayPush (map entry_of nodes) u → IsAboveLast (map entry_of nodes) x.offset → IsInsertion (map entry_of nodes) u insertion
    → insertion.depth ≤ 256 → length nodes < 8000000 → n ≡ length nodes → x.up ≡ u → x.first ≡ None → x.next ≡ None → nodes' ≡ with_link (nodes ++ x ∷ []) u insertion.sibling n → IsTree nodes' insertion.depth
tree_push nodes nodes' x depth n u insertion tree may above is deep few count up first next new =
    let t = map entry_of nodes in
    let size = length_of_map entry_of nodes in
    let may_x : MayPush (map entry_of nodes) x.up = subst (MayPush (map entry_of nodes)) (sym up) may in
    let here : nodes' ≡ with_link (nodes ++ x ∷ []) u insertion.sibling (length nodes) = new ∙ ap (with_link (nodes ++ x ∷ []) u insertion.sibling) count in
    let shown : map entry_of (with_link (nodes ++ x ∷ []) u insertion.sibling (length nodes)) ≡ t ++ entry_of x ∷ [] = pushed_entries nodes x u insertion.sibling (length nodes) in
    let own : depth_of t x.up ≡ depth_of t u = ap (depth_of t) up in
    let whole : IsTree (with_link (nodes ++ x ∷ []) u insertion.sibling (length nodes)) insertion.depth = record {
      entries = subst AreEntries (sym shown) (entries_push t (entry_of x) tree.entries may_x above (omega (arith, is.depth, own, deep)) (omega (arith, size, few)));
      linked = linked_push nodes x u insertion.sibling tree.linked tree.entries.order may is.sibling up first next;
      last = is.depth ∙ ap (λ d. d + 1) (sym own) ∙ sym (last_depth t (entry_of x) tree.entries.order may_x) ∙ ap (depth_of (t ++ entry_of x ∷ [])) (sym (last_is (t ++ entry_of x ∷ []) (length t) (sym (length_push t (entry_of x))))) ∙ ap (λ l. depth_of l (last_of l)) (sym shown);
    } in
    subst (λ l. IsTree l insertion.depth) (sym here) whole

-- no parent is deeper than 256
pub depth_le : (t : List Entry) (u : Option ℕ) → AreEntries t → MayPush t u → depth_of t u ≤ 256
depth_le t None entries may = let a = none_counted t (length t) in omega arith
depth_le t (Some k) entries may = entries.shallow k may.0
