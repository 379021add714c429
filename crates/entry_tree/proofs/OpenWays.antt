-- Ways in the list of a forest's entries.
use Rattle.std.proofs.Common.{◌≡◌, ℕ, zero, suc, ◌+◌, ◌-◌, ◌<◌, ◌≤◌, List, [], ◌∷◌, ◌++◌, length, take, slice_get, Option, Some, None, option_and_then, refl, sym, ap, subst, ◌∙◌, arith, ◌⊎◌, inl, inr, length-take}
use Rattle.std.proofs.lemmas.Bool.{cases_lt}
use Rattle.entry_tree.specs.Entries.{Entry, up_of, OnWay, here, above, MayPush}
use Rattle.entry_tree.specs.Invariant.{AreInPrefixOrder}
use Rattle.entry_tree.specs.Forests.{Forest, empty, root, size_of, in_preorder, StandsFor, with_last_child, StandForAForest, PushLastChildren}
use Rattle.entry_tree.proofs.Finds.{within, some_at}
use Rattle.entry_tree.proofs.Ways.{AreEarlier, earlier, way_le, IsBelow, up_take, take_whole}
use Rattle.entry_tree.proofs.ForestOrder.{get_left, length_preorder, in_order}
use Rattle.entry_tree.proofs.Forests.{under, last_root, if_empty, IsOpen, last_child_of}

get_right : (a b : List Entry) (j : ℕ) → slice_get (a ++ b) (length a + j) ≡ slice_get b j
get_right [] b j = ap (slice_get b) (let q : 0 + j ≡ j = omega arith in q)
get_right (x ∷ a) b j = ap (slice_get (x ∷ (a ++ b))) (let q : suc (length a) + j ≡ suc (length a + j) = omega arith in q) ∙ get_right a b j

-- a parent is that of the roots, or an entry of the forest
abbrev ParentIn : Option ℕ → ℕ → Entry → Type 0
ParentIn up k y = (y.up ≡ up) ⊎ ((p : ℕ) × ((y.up ≡ Some p) × (k ≤ p)))

parents_in : (f : Forest) (up : Option ℕ) (k j : ℕ) (y : Entry) → slice_get (in_preorder up k f) j ≡ Some y → ParentIn up k y
parents_in empty up k j y e = cc
parents_in (root o u c t children behind) up k zero y e =
    let r : Entry = record { offset = o; unit = u; code = c; tag = t; up = up } in
    let is : r ≡ y = cc in
    inl (sym (ap (λ (x : Entry). x.up) is))
parents_in (root o u c t children behind) up k (suc j) y e =
    by_case (cases_lt j (length a)) (parents_in children (Some k) (k + 1) j y) (parents_in behind up (k + 1 + size_of children) (j - length a) y)
  where
    a : List Entry
    a = in_preorder (Some k) (k + 1) children

    b : List Entry
    b = in_preorder up (k + 1 + size_of children) behind

    wider : ParentIn (Some k) (k + 1) y → ParentIn up k y
    wider (inl q) = inr (k, (q, let z : k ≤ k = omega arith in z))
    wider (inr p) = let le = p.1.1 in inr (p.0, (p.1.0, let z : k ≤ p.0 = omega arith in z))

    later : ParentIn up (k + 1 + size_of children) y → ParentIn up k y
    later (inl q) = inl q
    later (inr p) = let le = p.1.1 in inr (p.0, (p.1.0, let z : k ≤ p.0 = omega arith in z))

    by_case : (j < length a) ⊎ (length a ≤ j) → (slice_get a j ≡ Some y → ParentIn (Some k) (k + 1) y) → (slice_get b (j - length a) ≡ Some y → ParentIn up (k + 1 + size_of children) y) → ParentIn up k y
    by_case (inl h) p q = wider (p (sym (get_left a b j h) ∙ e))
    by_case (inr h) p q = later (q (sym (get_right a b (j - length a)) ∙ ap (slice_get (a ++ b)) (let z : length a + (j - length a) ≡ j = omega arith in z) ∙ e))

-- the list has the entries of the forest from place k on
pub record Holds (t : List Entry) (k : ℕ) (up : Option ℕ) (f : Forest) : Type 0 where
  pub at : (j : ℕ) (y : Entry) → slice_get (in_preorder up k f) j ≡ Some y → slice_get t (k + j) ≡ Some y

holds_children : (t : List Entry) (k : ℕ) (up : Option ℕ) (o u c g : ℕ) (children behind : Forest) → Holds t k up (root o u c g children behind) → Holds t (k + 1) (Some k) children
holds_children t k up o u c g children behind h = record {
  at = λ j y e.
      ap (slice_get t) (let q : k + 1 + j ≡ k + suc j = omega arith in q) ∙
      h.at (suc j) y (get_left (in_preorder (Some k) (k + 1) children) (in_preorder up (k + 1 + size_of children) behind) j (within (in_preorder (Some k) (k + 1) children) j y e) ∙ e);
}

holds_behind : (t : List Entry) (k : ℕ) (up : Option ℕ) (o u c g : ℕ) (children behind : Forest) → Holds t k up (root o u c g children behind) → Holds t (k + 1 + size_of children) up behind
holds_behind t k up o u c g children behind h = record {
  at = λ j y e.
      let size = length_preorder children (Some k) (k + 1) in
      ap (slice_get t) (let q : k + 1 + size_of children + j ≡ k + suc (length (in_preorder (Some k) (k + 1) children) + j) = omega arith in q) ∙
      h.at (suc (length (in_preorder (Some k) (k + 1) children) + j)) y (get_right (in_preorder (Some k) (k + 1) children) (in_preorder up (k + 1 + size_of children) behind) j ∙ e);
}

-- a way from an entry of the forest stays there, or leaves it by the parent of the roots
abbrev Leaves : List Entry → Option ℕ → ℕ → ℕ → Type 0
Leaves t up m i = (m ≤ i) ⊎ ((u : ℕ) × ((up ≡ Some u) × OnWay t u i))

leaves : (t : List Entry) (f : Forest) (up : Option ℕ) (m : ℕ) → AreEarlier t → Holds t m up f → (j i : ℕ) → OnWay t j i → m ≤ j → j < m + size_of f → Leaves t up m i
leaves t f up m h holds j i here le lt = inl le
leaves t f up m h holds j i (above p e w) le lt =
    by_case (parents_in f up m (j - m) y.0 y.1) (leaves t f up m h holds p i w)
  where
    y : (x : Entry) × (slice_get (in_preorder up m f) (j - m) ≡ Some x)
    y = some_at (in_preorder up m f) (j - m) (let size = length_preorder f up m in omega arith)

    by_case : ParentIn up m y.0 → (m ≤ p → p < m + size_of f → Leaves t up m i) → Leaves t up m i
    by_case (inl q) r =
        let at : slice_get t j ≡ Some y.0 = ap (slice_get t) (let z : j ≡ m + (j - m) = omega arith in z) ∙ holds.at (j - m) y.0 y.1 in
        inr (p, (sym q ∙ sym (ap (option_and_then (λ x. x.up)) at) ∙ e, w))
    by_case (inr q) r =
        let at : slice_get t j ≡ Some y.0 = ap (slice_get t) (let z : j ≡ m + (j - m) = omega arith in z) ∙ holds.at (j - m) y.0 y.1 in
        let is : Some q.0 ≡ Some p = sym q.1.0 ∙ sym (ap (option_and_then (λ x. x.up)) at) ∙ e in
        let same : q.0 ≡ p = cc in
        let a = q.1.1 in
        let b = h j p e in
        r (omega arith) (omega arith)

-- an entry on the way from the last one is open
open_way : (t : List Entry) → AreEarlier t → (f : Forest) (up : Option ℕ) (k : ℕ) → IsBelow up k → Holds t k up f → (last i : ℕ) → suc last ≡ k + size_of f → OnWay t last i → k ≤ i → IsOpen k i f
open_way t h empty up k b holds last i e w le = let a = way_le t last i h w in absurd (omega arith)
open_way t h (root o u c g children behind) up k b holds last i e w le =
    each behind e (holds_behind t k up o u c g children behind holds)
    (open_way t h children (Some k) (k + 1) (λ p q. let is : k ≡ p = cc in omega arith) (holds_children t k up o u c g children behind holds) last i)
    (open_way t h behind up (k + 1 + size_of children) (λ p q. let a = b p q in omega arith) (holds_behind t k up o u c g children behind holds) last i)
  where
    each : (d : Forest) → suc last ≡ k + size_of (root o u c g children d) → Holds t (k + 1 + size_of children) up d
        → (suc last ≡ k + 1 + size_of children → OnWay t last i → k + 1 ≤ i → IsOpen (k + 1) i children)
        → (suc last ≡ k + 1 + size_of children + size_of d → OnWay t last i → k + 1 + size_of children ≤ i → IsOpen (k + 1 + size_of children) i d)
        → if_empty d ((i ≡ k) ⊎ IsOpen (k + 1) i children) (IsOpen (k + 1 + size_of children) i d)
    each empty q z p p' = by_case (cases_lt k i)
      where
        by_case : (k < i) ⊎ (i ≤ k) → (i ≡ k) ⊎ IsOpen (k + 1) i children
        by_case (inl l) = inr (p (omega arith) w (omega arith))
        by_case (inr l) = inl (omega arith)
    each (root o' u' c' g' children' behind') q z p p' =
        by_case (leaves t (root o' u' c' g' children' behind') up (k + 1 + size_of children) h z last i w (omega arith) (omega arith))
      where
        by_case : Leaves t up (k + 1 + size_of children) i → IsOpen (k + 1 + size_of children) i (root o' u' c' g' children' behind')
        by_case (inl l) = p' (omega arith) w l
        by_case (inr l) =
            let a = b l.0 l.1.0 in
            let d = way_le t l.0 i h l.1.1 in
            absurd (omega arith)

push_by : (t : List Entry) (e : Entry) (f : Forest) (up : Option ℕ) → AreInPrefixOrder t → MayPush t up → e.up ≡ up → StandsFor t f → StandsFor (t ++ e ∷ []) (with_last_child up e f)
push_by t e f None order may q stands = ap (λ l. l ++ e ∷ []) stands ∙ ap (λ u. in_preorder None 0 f ++ under u e ∷ []) q ∙ sym (last_root f None 0 e)
push_by t e f (Some i) order may q stands =
    let size : length t ≡ size_of f = ap length stands ∙ length_preorder f None 0 in
    let lt = may.0 in
    let holds : Holds t 0 None f = record { at = λ j y e. ap (slice_get t) (let z : 0 + j ≡ j = omega arith in z) ∙ ap (λ l. slice_get l j) stands ∙ e } in
    let open_i : IsOpen 0 i f = open_way t (earlier t order) f None 0 (λ p z. cc) holds (length t - 1) i (omega arith) may.1 (omega arith) in
    ap (λ l. l ++ e ∷ []) stands ∙ ap (λ u. in_preorder None 0 f ++ under u e ∷ []) q ∙ sym (last_child_of f None 0 i e open_i)

pub push_law : PushLastChildren
push_law t e f order may stands = push_by t e f e.up order may refl stands

take_take : (t : List Entry) (m i : ℕ) → i ≤ m → take i (take m t) ≡ take i t
take_take t zero i h = ap (λ n. take n (take 0 t)) (let q : i ≡ 0 = omega arith in q) ∙ sym (ap (λ n. take n t) (let q : i ≡ 0 = omega arith in q))
take_take t (suc m) zero h = refl
take_take [] (suc m) (suc i) h = refl
take_take (x ∷ t) (suc m) (suc i) h = ap (λ l. x ∷ l) (take_take t m i (omega arith))

order_take : (t : List Entry) (m : ℕ) → AreInPrefixOrder t → AreInPrefixOrder (take m t)
order_take t m order i h =
    let l : i < m = omega (arith, length-take m t) in
    let w : i < length t = omega (arith, length-take m t) in
    subst (MayPush (take i (take m t))) (sym (up_take t m i l)) (subst (λ s. MayPush s (up_of t i)) (sym (take_take t m i (omega arith))) (order i w))

take_next : (t : List Entry) (m : ℕ) (x : Entry) → slice_get t m ≡ Some x → take (suc m) t ≡ take m t ++ x ∷ []
take_next [] m x e = cc
take_next (y ∷ t) zero x e = let is : y ≡ x = cc in ap (λ z. z ∷ []) is
take_next (y ∷ t) (suc m) x e = ap (λ l. y ∷ l) (take_next t m x e)

build : (t : List Entry) → AreInPrefixOrder t → (n : ℕ) → n ≤ length t → (f : Forest) × StandsFor (take n t) f
build t order zero h = (empty, refl)
build t order (suc n) h =
    let x = some_at t n (omega arith) in
    let f = build t order n (omega arith) in
    let may : MayPush (take n t) x.0.up = subst (MayPush (take n t)) (ap (option_and_then (λ z. z.up)) x.1) (order n (omega arith)) in
    (with_last_child x.0.up x.0 f.0, take_next t n x.0 x.1 ∙ push_law (take n t) x.0 f.0 (order_take t n order) may f.1)

some_forest : (t : List Entry) → AreInPrefixOrder t → (f : Forest) × StandsFor t f
some_forest t order = let f = build t order (length t) (omega arith) in (f.0, sym (take_whole t) ∙ f.1)

pub forest_law : StandForAForest
forest_law = record { some = some_forest; each = λ t f stands. subst AreInPrefixOrder (sym stands) (in_order f) }
