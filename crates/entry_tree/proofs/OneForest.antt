-- A list of entries stands for one forest at most.
use Rattle.std.proofs.Common.{◌≡◌, ℕ, ◌+◌, ◌<◌, ◌≤◌, List, [], ◌∷◌, ◌++◌, Option, Some, None, refl, sym, ap, ◌∙◌, arith, append_assoc, append-nil}
use Rattle.entry_tree.specs.Entries.{Entry}
use Rattle.entry_tree.specs.Forests.{Forest, empty, root, size_of, in_preorder, StandForOneForest}
use Rattle.entry_tree.proofs.Ways.{IsBelow}

-- the list does not go on with an entry below `up`, or below an entry from k on
abbrev Ends : Option ℕ → ℕ → List Entry → Type 0
Ends up k [] = Unit {0}
Ends up k (e ∷ t) = (e.up ≡ up → ⊥) × ((p : ℕ) → e.up ≡ Some p → p < k)

ends_later : (up : Option ℕ) (k m : ℕ) (t : List Entry) → k ≤ m → Ends up k t → Ends up m t
ends_later up k m [] h e = tt
ends_later up k m (x ∷ t) h e = (e.0, λ p q. let a = e.1 p q in omega arith)

-- after the children of entry k come its siblings, or what comes after them
ends_children : (up : Option ℕ) (k m : ℕ) (f : Forest) (t : List Entry) → IsBelow up k → Ends up k t → Ends (Some k) (k + 1) (in_preorder up m f ++ t)
ends_children up k m empty [] b e = tt
ends_children up k m empty (x ∷ t) b e = (λ q. let a = e.1 k q in omega arith, λ p q. let a = e.1 p q in omega arith)
ends_children up k m (root o u c g children behind) t b e = (λ q. let a = b k q in omega arith, λ p q. let a = b p q in omega arith)

-- the list of a forest's entries with more after it says which forest it is, and what is after it
unique : (f g : Forest) (up : Option ℕ) (k : ℕ) (xs ys : List Entry) → IsBelow up k → Ends up k xs → Ends up k ys → in_preorder up k f ++ xs ≡ in_preorder up k g ++ ys → (f ≡ g) × (xs ≡ ys)
unique empty empty up k xs ys b p q e = (refl, e)
unique empty (root o u c g children behind) up k [] ys b p q e = cc
unique empty (root o u c g children behind) up k (x ∷ xs) ys b p q e =
    let r : Entry = record { offset = o; unit = u; code = c; tag = g; up = up } in
    let is : x ≡ r = cc in
    absurd (p.0 (ap (λ (z : Entry). z.up) is))
unique (root o u c g children behind) empty up k xs [] b p q e = cc
unique (root o u c g children behind) empty up k xs (y ∷ ys) b p q e =
    let r : Entry = record { offset = o; unit = u; code = c; tag = g; up = up } in
    let is : y ≡ r = cc in
    absurd (q.0 (ap (λ (z : Entry). z.up) is))
unique (root o u c g children behind) (root o' u' c' g' children' behind') up k xs ys b p q e =
    let r : Entry = record { offset = o; unit = u; code = c; tag = g; up = up } in
    let r' : Entry = record { offset = o'; unit = u'; code = c'; tag = g'; up = up } in
    let is : r ≡ r' = cc in
    let m = k + 1 + size_of children in
    let m' = k + 1 + size_of children' in
    let rest : (in_preorder (Some k) (k + 1) children ++ in_preorder up m behind) ++ xs ≡ (in_preorder (Some k) (k + 1) children' ++ in_preorder up m' behind') ++ ys = cc in
    let split : in_preorder (Some k) (k + 1) children ++ (in_preorder up m behind ++ xs) ≡ in_preorder (Some k) (k + 1) children' ++ (in_preorder up m' behind' ++ ys) =
    sym (append_assoc (in_preorder (Some k) (k + 1) children) (in_preorder up m behind) xs) ∙ rest ∙ append_assoc (in_preorder (Some k) (k + 1) children') (in_preorder up m' behind') ys in
    let a = unique children children' (Some k) (k + 1) (in_preorder up m behind ++ xs) (in_preorder up m' behind' ++ ys) (λ n z. let l : k ≡ n = cc in omega arith) (ends_children up k m behind xs b p) (ends_children up k m' behind' ys b q) split in
    let place : m' ≡ m = ap (λ f. k + 1 + size_of f) (sym a.0) in
    let d = unique behind behind' up m xs ys (λ n z. let l = b n z in omega arith) (ends_later up k m xs (omega arith) p) (ends_later up k m ys (omega arith) q) (a.1 ∙ ap (λ n. in_preorder up n behind' ++ ys) place) in (
      ap (λ f. root o u c g f behind) a.0 ∙ ap (λ f. root o u c g children' f) d.0 ∙
          ap (λ n. root n u c g children' behind') (ap (λ (z : Entry). z.offset) is) ∙ ap (λ n. root o' n c g children' behind') (ap (λ (z : Entry). z.unit) is) ∙
          ap (λ n. root o' u' n g children' behind') (ap (λ (z : Entry). z.code) is) ∙ ap (λ n. root o' u' c' n children' behind') (ap (λ (z : Entry). z.tag) is),
      d.1,
    )

pub one_forest : StandForOneForest
one_forest t a b p q =
    (unique a b None 0 [] [] (λ n z. cc) tt tt (append-nil (in_preorder None 0 a) ∙ sym p ∙ q ∙ sym (append-nil (in_preorder None 0 b)))).0
