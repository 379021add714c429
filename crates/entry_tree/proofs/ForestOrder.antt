-- The entries of a forest are in prefix order.
use Rattle.std.proofs.Common.{◌≡◌, ℕ, zero, suc, ◌+◌, ◌<◌, List, [], ◌∷◌, ◌++◌, length, slice_get, Option, Some, None, option_and_then, refl, sym, ap, subst, ◌∙◌, arith, length-append, append_assoc, append-nil}
use Rattle.entry_tree.specs.Entries.{Entry, new_entry, MayPush}
use Rattle.entry_tree.specs.Invariant.{AreInPrefixOrder}
use Rattle.entry_tree.specs.Forests.{Forest, empty, root, size_of, in_preorder}
use Rattle.entry_tree.proofs.Finds.{get_last}
use Rattle.entry_tree.proofs.Ways.{order_push, length_push}
use Rattle.entry_tree.proofs.Parents.{under_last, under_up}

pub get_left : (a b : List Entry) (j : ℕ) → j < length a → slice_get (a ++ b) j ≡ slice_get a j
get_left [] b j h = absurd (omega arith)
get_left (x ∷ a) b zero h = refl
get_left (x ∷ a) b (suc j) h = get_left a b j (omega arith)

pub length_preorder : (f : Forest) (up : Option ℕ) (k : ℕ) → length (in_preorder up k f) ≡ size_of f
length_preorder empty up k = refl
length_preorder (root o u c t children behind) up k =
    let a = length_preorder children (Some k) (k + 1) in
    let b = length_preorder behind up (k + 1 + size_of children) in
    let e = length-append (in_preorder (Some k) (k + 1) children) (in_preorder up (k + 1 + size_of children) behind) in
    omega arith

-- the order holds, and one more may come beside the roots
record Goes (t : List Entry) (up : Option ℕ) : Type 0 where
  order : AreInPrefixOrder t
  may : MayPush t up

goes_on : (f : Forest) (up : Option ℕ) (k : ℕ) (before : List Entry) → length before ≡ k → Goes before up → Goes (before ++ in_preorder up k f) up
goes_on empty up k before e goes = subst (λ t. Goes t up) (sym (append-nil before)) goes
goes_on (root o u c t children behind) up k before e goes =
    let r : Entry = new_entry up o u c t in
    let front : List Entry = before ++ r ∷ [] in
    let inner : List Entry = in_preorder (Some k) (k + 1) children in
    let size = length_push before r in
    let first : Goes front (Some k) = record {
      order = order_push before r goes.order goes.may;
      may = subst (λ j. MayPush (before ++ r ∷ []) (Some j)) e (under_last before r);
    } in
    let second = goes_on children (Some k) (k + 1) front (omega arith) first in
    let at : slice_get (front ++ inner) k ≡ Some r = get_left front inner k (omega arith) ∙ ap (slice_get front) (sym e) ∙ get_last before r in
    let beside : MayPush (front ++ inner) up = subst (MayPush (front ++ inner)) (ap (option_and_then (λ x. x.up)) at) (under_up (front ++ inner) k second.order second.may) in
    let third = goes_on behind up (k + 1 + size_of children) (front ++ inner) (omega (arith, length-append front inner, length_preorder children (Some k) (k + 1), size)) (record { order = second.order; may = beside }) in
    subst (λ t. Goes t up) (append_assoc front inner (in_preorder up (k + 1 + size_of children) behind) ∙ append_assoc before (r ∷ []) (inner ++ in_preorder up (k + 1 + size_of children) behind)) third

pub in_order : (f : Forest) → AreInPrefixOrder (in_preorder None 0 f)
in_order f = (goes_on f None 0 [] refl (record { order = λ i h. absurd (omega arith); may = tt })).order
