-- For callers: which parents the next entry may have, and which offset.
use Rattle.std.proofs.Common.{◌≡◌, ℕ, ◌-◌, ◌<◌, List, [], ◌∷◌, ◌++◌, length, slice_get, Option, Some, None, refl, sym, ap, subst, ◌∙◌, arith}
use Rattle.entry_tree.specs.Entries.{Entry, up_of, OnWay, here, above, MayPush, IsAboveLast}
use Rattle.entry_tree.specs.Invariant.{AreInPrefixOrder}
use Rattle.entry_tree.proofs.Finds.{get_last}
use Rattle.entry_tree.proofs.Ways.{AreEarlier, earlier, up_push, up_last, way_then, length_push}

-- the last entry
pub under_last : (t : List Entry) (e : Entry) → MayPush (t ++ e ∷ []) (Some (length t))
under_last t e = (
  omega (arith, length_push t e),
  subst (λ i. OnWay (t ++ e ∷ []) i (length t)) (let q : length t ≡ length (t ++ e ∷ []) - 1 = omega (arith, length_push t e) in q) here,
)

way_push : (t : List Entry) (e : Entry) (i k : ℕ) → AreEarlier t → i < length t → OnWay t i k → OnWay (t ++ e ∷ []) i k
way_push t e i k h l here = here
way_push t e i k h l (above j q w) = above j (up_push t e i l ∙ q) (way_push t e j k h (let a = h i j q in omega arith) w)

-- an entry that is the last one's parent, or above it
pub under_above : (t : List Entry) (e : Entry) (p k : ℕ) → AreInPrefixOrder t → e.up ≡ Some p → MayPush t (Some p) → OnWay t p k → k < length t → MayPush (t ++ e ∷ []) (Some k)
under_above t e p k order up may w l = (
  omega (arith, length_push t e),
  subst (λ i. OnWay (t ++ e ∷ []) i k) (let q : length t ≡ length (t ++ e ∷ []) - 1 = omega (arith, length_push t e) in q)
      (above p (up_last t e ∙ up) (way_push t e p k (earlier t order) may.0 w)),
)

-- the last one's parent, if it has one
pub under_same : (t : List Entry) (e : Entry) (u : Option ℕ) → AreInPrefixOrder t → e.up ≡ u → MayPush t u → MayPush (t ++ e ∷ []) u
under_same t e None order up may = tt
under_same t e (Some p) order up may = under_above t e p p order up may here may.0

held : (t : List Entry) (k : ℕ) (u : Option ℕ) → AreInPrefixOrder t → up_of t k ≡ u → MayPush t (Some k) → MayPush t u
held t k None order e may = tt
held t k (Some j) order e may = let l = earlier t order k j e in let a = may.0 in (omega arith, way_then t (length t - 1) k j may.1 (above j e here))

-- the parent of one that may be
pub under_up : (t : List Entry) (k : ℕ) → AreInPrefixOrder t → MayPush t (Some k) → MayPush t (up_of t k)
under_up t k order may = held t k (up_of t k) order refl may

-- any offset in an empty tree, and those above the last one
pub above_none : (offset : ℕ) → IsAboveLast [] offset
above_none offset last e = cc

pub above_new : (t : List Entry) (e : Entry) (offset : ℕ) → e.offset < offset → IsAboveLast (t ++ e ∷ []) offset
above_new t e offset h last g =
    let q : Some e ≡ Some last = sym (get_last t e) ∙ ap (slice_get (t ++ e ∷ [])) (let z : length t ≡ length (t ++ e ∷ []) - 1 = omega (arith, length_push t e) in z) ∙ g in
    let is : e ≡ last = cc in
    let o = ap (λ (x : Entry). x.offset) is in
    omega arith
