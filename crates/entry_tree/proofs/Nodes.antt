-- Nodes whose links are those of their parents.
use Rattle.std.proofs.Common.{◌≡◌, ℕ, zero, suc, ◌+◌, ◌-◌, ◌<◌, ◌≤◌, List, [], ◌∷◌, length, drop, map, get_or, slice_get, Option, Some, None, option_and_then, refl, sym, ap, ltb, Decides, ltb-true, lt-ltb, ◌∙◌, arith, length-drop}
use Rattle.std.specs.Option.{option_map}
use Rattle.std.specs.List.{position_from}
use Rattle.std.proofs.lemmas.Option.{slice_get-get_or}
use Rattle.entry_tree.specs.declared.node.Node.{Node}
use Rattle.entry_tree.specs.Entries.{Entry, IsAboveLast, has_parent, up_of}
use Rattle.entry_tree.specs.Links.{first_child, next_sibling, places_from, children_of, with_siblings, siblings_from, node_of, entry_of, Linked}
use Rattle.entry_tree.proofs.Finds.{eq_true, eq_not, within, get_drop, get_map, length_of_map, find_none, found, places_at, places_first}
use Rattle.entry_tree.proofs.Ways.{AreEarlier}

-- a node of zeros
abbrev pub blank : Node
blank = record { offset = 0; unit = 0; code = 0; tag = 0; first = None; next = None; up = None }

-- the node is entry i with its links
pub record IsNodeAt (t : List Entry) (i : ℕ) (n : Node) : Type 0 where
  pub entry : Entry
  pub at : slice_get t i ≡ Some entry
  pub first : n.first ≡ first_child t i
  pub next : n.next ≡ next_sibling t i
  pub up : n.up ≡ up_of t i

pub node_at : (t : List Entry) (i : ℕ) (n : Node) → node_of t i ≡ Some n → IsNodeAt t i n
node_at t i n e = each (slice_get t i) refl e
  where
    linked_entry : Entry → Node
    linked_entry e = record { offset = e.offset; unit = e.unit; code = e.code; tag = e.tag; first = first_child t i; next = next_sibling t i; up = e.up }

    each : (o : Option Entry) → slice_get t i ≡ o → option_map linked_entry o ≡ Some n → IsNodeAt t i n
    each None at h = cc
    each (Some y) at h =
        let is : linked_entry y ≡ n = cc in
        record { entry = y; at = at; first = sym (ap (λ m. m.first) is); next = sym (ap (λ m. m.next) is); up = sym (ap (λ m. m.up) is) ∙ sym (ap (option_and_then (λ x. x.up)) at) }

pub link_at : (nodes : List Node) (i : ℕ) (d : Node) → Linked nodes → i < length nodes → IsNodeAt (map entry_of nodes) i (get_or nodes i d)
link_at nodes i d linked h = node_at (map entry_of nodes) i (get_or nodes i d) (sym (linked i) ∙ slice_get-get_or nodes i d h)

pub first_there : (t : List Entry) (i k : ℕ) → first_child t i ≡ Some k → k < length t
first_there t i k e = let f = found (has_parent (Some i)) 0 t k e in let h = f.before in omega arith

pub next_there : (t : List Entry) (i k : ℕ) → next_sibling t i ≡ Some k → k < length t
next_there t i k e = each (slice_get t i) refl e
  where
    each : (o : Option Entry) → slice_get t i ≡ o → option_and_then (λ y. position_from (has_parent y.up) (i + 1) (drop (i + 1) t)) o ≡ Some k → k < length t
    each None at h = cc
    each (Some y) at h =
        let f = found (has_parent y.up) (i + 1) (drop (i + 1) t) k h in
        let l = within t i y at in
        omega (arith, f.before, length-drop (i + 1) t)

-- after the end there is no parent
pub no_child_past : (t : List Entry) (i : ℕ) → AreEarlier t → length t ≤ i → first_child t i ≡ None
no_child_past t i earlier h =
    find_none (has_parent (Some i)) 0 t (λ j e at. eq_not e.up (Some i) (λ q. let a = earlier j i (ap (option_and_then (λ x. x.up)) at ∙ q) in let b = within t j e at in omega arith))

drop_none : (n : ℕ) → drop {A = Entry} n [] ≡ []
drop_none zero = refl
drop_none (suc n) = refl

drop_drop : (t : List Entry) (m n : ℕ) → drop n (drop m t) ≡ drop (m + n) t
drop_drop t zero n = ap (λ k. drop k t) (let q : n ≡ 0 + n = omega arith in q)
drop_drop [] (suc m) n = drop_none n ∙ sym (drop_none (suc m + n))
drop_drop (x ∷ t) (suc m) n = drop_drop t m n ∙ ap (λ k. drop k (x ∷ t)) (let q : suc (m + n) ≡ suc m + n = omega arith in q)

-- the entries from m on with the parent u are the first of them and its siblings after it
pub siblings_are : (t : List Entry) (u : Option ℕ) (m : ℕ) → places_from (has_parent u) m (drop m t) ≡ siblings_from t (position_from (has_parent u) m (drop m t))
siblings_are t u m = places_first (has_parent u) m (drop m t) ∙ each (position_from (has_parent u) m (drop m t)) refl
  where
    each : (o : Option ℕ) → position_from (has_parent u) m (drop m t) ≡ o → places_at (has_parent u) m (drop m t) o ≡ siblings_from t o
    each None e = refl
    each (Some j) e =
        let f = found (has_parent u) m (drop m t) j e in
        let le = f.behind in
        let at : slice_get t j ≡ Some f.entry = ap (slice_get t) (let q : j ≡ m + (j - m) = omega arith in q) ∙ sym (get_drop t m (j - m)) ∙ f.is in
        let up : f.entry.up ≡ u = eq_true f.entry.up u f.passes in
        let rest : drop (j + 1 - m) (drop m t) ≡ drop (j + 1) t = drop_drop t m (j + 1 - m) ∙ ap (λ k. drop k t) (let q : m + (j + 1 - m) ≡ j + 1 = omega arith in q) in
        ap (λ l. j ∷ places_from (has_parent u) (j + 1) l) rest ∙ ap (λ v. j ∷ places_from (has_parent v) (j + 1) (drop (j + 1) t)) (sym up) ∙
        ap (with_siblings t j) (sym at)

pub children_are : (t : List Entry) (i : ℕ) → siblings_from t (first_child t i) ≡ children_of t i
children_are t i = sym (siblings_are t (Some i) 0)

pub siblings_next : (t : List Entry) (k : ℕ) (e : Entry) → slice_get t k ≡ Some e → siblings_from t (Some k) ≡ k ∷ siblings_from t (next_sibling t k)
siblings_next t k e at =
    ap (with_siblings t k) at ∙ ap (λ l. k ∷ l) (siblings_are t e.up (k + 1)) ∙
    ap (λ o. k ∷ siblings_from t (option_and_then (λ y. position_from (has_parent y.up) (k + 1) (drop (k + 1) t)) o)) (sym at)

pub entry_at : (nodes : List Node) (i : ℕ) → i < length nodes → slice_get (map entry_of nodes) i ≡ Some (entry_of (get_or nodes i blank))
entry_at nodes i h = get_map entry_of nodes i (get_or nodes i blank) (slice_get-get_or nodes i blank h)

-- a test of the last node's offset
pub above_last : (nodes : List Node) (n : Node) (offset : ℕ) → Some n ≡ slice_get nodes (length nodes - 1) → Decides (ltb n.offset offset) (IsAboveLast (map entry_of nodes) offset)
above_last nodes n offset e = (λ h last g. only last g (ltb-true n.offset offset h), λ h. lt-ltb n.offset offset (h (entry_of n) there))
  where
    there : slice_get (map entry_of nodes) (length (map entry_of nodes) - 1) ≡ Some (entry_of n)
    there = ap (λ k. slice_get (map entry_of nodes) (k - 1)) (length_of_map entry_of nodes) ∙ get_map entry_of nodes (length nodes - 1) n (sym e)

    only : (last : Entry) → slice_get (map entry_of nodes) (length (map entry_of nodes) - 1) ≡ Some last → n.offset < offset → last.offset < offset
    only last g h =
        let q : Some (entry_of n) ≡ Some last = sym there ∙ g in
        let is : entry_of n ≡ last = cc in
        let o = ap (λ (x : Entry). x.offset) is in
        omega arith
