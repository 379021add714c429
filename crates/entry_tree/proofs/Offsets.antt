-- Searches by offset, where offsets rise.
use Rattle.std.proofs.Common.{◌≡◌, ◌∙◌, ◌<◌, ◌≤◌, ◌+◌, ◌==◌, ℕ, List, length, map, get_or, slice_get, Some, None, true, false, sym, ap, arith, eq-eqb, ltb, ltb-true, ltb-false, ◌⊎◌, inl, inr}
use Rattle.std.specs.List.{position}
use Rattle.std.specs.List.Sorted.{IsNonDecreasingBy, IsPartitionPoint}
use Rattle.std.proofs.lemmas.Bool.{cases_lt}
use Rattle.std.proofs.lemmas.Option.{slice_get-get_or}
use Rattle.std.proofs.lemmas.Iterator.Adapters.{position_from-zero}
use Rattle.entry_tree.specs.declared.node.Node.{Node}
use Rattle.entry_tree.specs.Entries.{Entry}
use Rattle.entry_tree.specs.Links.{entry_of}
use Rattle.entry_tree.proofs.Finds.{eq_not, find_first, find_none, get_map, length_of_map, within}
use Rattle.entry_tree.proofs.Nodes.{blank}

-- offsets rise with the numbers
abbrev pub Rise : List Entry → Type 0
Rise t = (i j : ℕ) (e f : Entry) → i < j → slice_get t i ≡ Some e → slice_get t j ≡ Some f → e.offset < f.offset

other_offset : (e : Entry) (offset : ℕ) → (e.offset ≡ offset → ⊥) → (e.offset == offset) ≡ false
other_offset e offset h = eq_not (Some e.offset) (Some offset) (λ q. h (let p : e.offset ≡ offset = cc in p))

pub here_at : (t : List Entry) (offset m : ℕ) (there : Entry) → Rise t → slice_get t m ≡ Some there → there.offset ≡ offset → Some m ≡ position (λ e. e.offset == offset) t
here_at t offset m there rise at is =
    ap (λ n. Some n) (let q : m ≡ 0 + m = omega arith in q) ∙
    sym (find_first (λ e. e.offset == offset) 0 t m there at (eq-eqb there.offset offset is) (λ i f h g. other_offset f offset (let l = rise i m f there h g at in λ q. omega arith))) ∙
    sym (position_from-zero (λ e. e.offset == offset) t)

pub nowhere : (t : List Entry) (offset low : ℕ) → ((i : ℕ) (e : Entry) → i < low → slice_get t i ≡ Some e → e.offset < offset) → ((i : ℕ) (e : Entry) → low ≤ i → slice_get t i ≡ Some e → offset < e.offset) → None ≡ position (λ e. e.offset == offset) t
nowhere t offset low below above =
    sym (find_none (λ e. e.offset == offset) 0 t (λ i e g. other_offset e offset (by_case i e g (cases_lt i low)))) ∙ sym (position_from-zero (λ e. e.offset == offset) t)
  where
    by_case : (i : ℕ) (e : Entry) → slice_get t i ≡ Some e → (i < low) ⊎ (low ≤ i) → e.offset ≡ offset → ⊥
    by_case i e g (inl h) q = let l = below i e h g in omega arith
    by_case i e g (inr h) q = let l = above i e h g in omega arith

-- where the entry at m begins after the offset, all from it on do
above_at : (t : List Entry) (offset m : ℕ) (there : Entry) → Rise t → slice_get t m ≡ Some there → offset < there.offset → (i : ℕ) (e : Entry) → m ≤ i → slice_get t i ≡ Some e → offset < e.offset
above_at t offset m there rise at lt i e h g = by_case (cases_lt m i)
  where
    by_case : (m < i) ⊎ (i ≤ m) → offset < e.offset
    by_case (inl l) = let r = rise m i there e l at g in omega arith
    by_case (inr l) =
        let q : Some e ≡ Some there = sym g ∙ ap (slice_get t) (let p : i ≡ m = omega arith in p) ∙ at in
        let is : e ≡ there = cc in
        let o = ap (λ (x : Entry). x.offset) is in
        omega arith

-- an entry has the offset of its node
offset_of : (nodes : List Node) (i : ℕ) (e : Entry) (d : Node) → slice_get (map entry_of nodes) i ≡ Some e → e.offset ≡ (get_or nodes i d).offset
offset_of nodes i e d g =
    let lt : i < length nodes = omega (arith, within (map entry_of nodes) i e g, length_of_map entry_of nodes) in
    let q : Some e ≡ Some (entry_of (get_or nodes i d)) = sym g ∙ get_map entry_of nodes i (get_or nodes i d) (slice_get-get_or nodes i d lt) in
    let is : e ≡ entry_of (get_or nodes i d) = cc in
    ap (λ (x : Entry). x.offset) is

there_at : (nodes : List Node) (i : ℕ) (d : Node) → i < length nodes → slice_get (map entry_of nodes) i ≡ Some (entry_of (get_or nodes i d))
there_at nodes i d lt = get_map entry_of nodes i (get_or nodes i d) (slice_get-get_or nodes i d lt)

-- the offsets of nodes don't fall
pub nodes_rise : (nodes : List Node) → Rise (map entry_of nodes) → IsNonDecreasingBy (λ n. n.offset) nodes
nodes_rise nodes rise i j d le lt = by_case (cases_lt i j)
  where
    by_case : (i < j) ⊎ (j ≤ i) → (get_or nodes i d).offset ≤ (get_or nodes j d).offset
    by_case (inl l) =
        let r = rise i j (entry_of (get_or nodes i d)) (entry_of (get_or nodes j d)) l (there_at nodes i d (omega arith)) (there_at nodes j d lt) in
        omega arith
    by_case (inr l) = let p : i ≡ j = omega arith in let q = ap (λ k. (get_or nodes k d).offset) p in omega arith

-- all nodes before the place begin before the offset, and none from it on does
abbrev pub IsParted : List Node → ℕ → ℕ → Type 0
IsParted nodes offset place = IsPartitionPoint (λ n. ltb n.offset offset ≡ true) (λ n. ltb n.offset offset ≡ false) nodes place

before : (nodes : List Node) (offset place : ℕ) → IsParted nodes offset place → (i : ℕ) (e : Entry) → i < place → slice_get (map entry_of nodes) i ≡ Some e → e.offset < offset
before nodes offset place parted i e h g =
    let o = offset_of nodes i e blank g in
    let l = ltb-true (get_or nodes i blank).offset offset (parted.0 i blank (omega arith) h) in
    omega (arith, o, l)

-- where no node is at the place, none has the offset
pub none_past : (nodes : List Node) (offset place : ℕ) → IsParted nodes offset place → length nodes ≤ place → None ≡ position (λ e. e.offset == offset) (map entry_of nodes)
none_past nodes offset place parted past =
    nowhere (map entry_of nodes) offset place (before nodes offset place parted)
    (λ i e h g. absurd (let l = within (map entry_of nodes) i e g in let m = length_of_map entry_of nodes in omega (arith, l, m, h, past)))

-- where the node at the place has another offset, none has it
pub none_other : (nodes : List Node) (offset place : ℕ) (d : Node) → Rise (map entry_of nodes) → IsParted nodes offset place → place < length nodes → ((get_or nodes place d).offset ≡ offset → ⊥)
    → None ≡ position (λ e. e.offset == offset) (map entry_of nodes)
none_other nodes offset place d rise parted lt other =
    let from = ltb-false (get_or nodes place d).offset offset (parted.1 place d (omega arith) lt) in
    nowhere (map entry_of nodes) offset place (before nodes offset place parted)
    (above_at (map entry_of nodes) offset place (entry_of (get_or nodes place d)) rise (there_at nodes place d lt) (omega (arith, from, other)))

-- where it has the offset, it is the one
pub found_there : (nodes : List Node) (offset place : ℕ) (d : Node) → Rise (map entry_of nodes) → place < length nodes → (get_or nodes place d).offset ≡ offset
    → Some place ≡ position (λ e. e.offset == offset) (map entry_of nodes)
found_there nodes offset place d rise lt is = here_at (map entry_of nodes) offset place (entry_of (get_or nodes place d)) rise (there_at nodes place d lt) is
