-- Forests with one entry more.
use Rattle.std.proofs.Common.{◌≡◌, ℕ, ◌+◌, ◌≤◌, ◌==◌, false, if◌then◌else◌, List, [], ◌∷◌, ◌++◌, Option, Some, refl, sym, ap, ◌∙◌, arith, ◌⊎◌, inl, inr, append_assoc, append-nil, eq-eqb}
use Rattle.entry_tree.specs.Entries.{Entry}
use Rattle.entry_tree.specs.Forests.{Forest, empty, root, size_of, in_preorder, with_last_root, with_child_from}
use Rattle.entry_tree.proofs.Finds.{eq_not}

-- the entry below another parent
abbrev pub under : Option ℕ → Entry → Entry
under up e = record { offset = e.offset; unit = e.unit; code = e.code; tag = e.tag; up = up }

push_behind : (r : Entry) (a b b' : List Entry) (e : Entry) → b' ≡ b ++ e ∷ [] → r ∷ (a ++ b') ≡ (r ∷ (a ++ b)) ++ e ∷ []
push_behind r a b b' e h = ap (λ l. r ∷ (a ++ l)) h ∙ ap (λ l. r ∷ l) (sym (append_assoc a b (e ∷ [])))

push_children : (r : Entry) (a a' : List Entry) (e : Entry) → a' ≡ a ++ e ∷ [] → r ∷ (a' ++ []) ≡ (r ∷ (a ++ [])) ++ e ∷ []
push_children r a a' e h = ap (λ l. r ∷ (l ++ [])) h ∙ ap (λ l. r ∷ l) (append-nil (a ++ e ∷ []) ∙ ap (λ l. l ++ e ∷ []) (sym (append-nil a)))

-- one root more is the last entry
pub last_root : (f : Forest) (up : Option ℕ) (k : ℕ) (e : Entry) → in_preorder up k (with_last_root e f) ≡ in_preorder up k f ++ under up e ∷ []
last_root empty up k e = refl
last_root (root o u c t children behind) up k e =
    push_behind (record { offset = o; unit = u; code = c; tag = t; up = up }) (in_preorder (Some k) (k + 1) children) (in_preorder up (k + 1 + size_of children) behind) _ (under up e) (last_root behind up (k + 1 + size_of children) e)

-- the first of two where there is no tree, and else the second
abbrev pub if_empty : Forest → Type 0 → Type 0 → Type 0
if_empty empty A B = A
if_empty (root o u c t children behind) A B = B

-- entry i is the last root, or such an entry among its children, where the first root has the number k
abbrev pub IsOpen : ℕ → ℕ → Forest → Type 0
IsOpen k i empty = ⊥
IsOpen k i (root o u c t children behind) = if_empty behind ((i ≡ k) ⊎ IsOpen (k + 1) i children) (IsOpen (k + 1 + size_of children) i behind)

open_from : (f : Forest) (k i : ℕ) → IsOpen k i f → k ≤ i
open_from empty k i h = absurd h
open_from (root o u c t children behind) k i h = each behind h (open_from children (k + 1) i) (open_from behind (k + 1 + size_of children) i)
  where
    each : (b : Forest) → if_empty b ((i ≡ k) ⊎ IsOpen (k + 1) i children) (IsOpen (k + 1 + size_of children) i behind) → (IsOpen (k + 1) i children → k + 1 ≤ i) → (IsOpen (k + 1 + size_of children) i behind → k + 1 + size_of children ≤ i) → k ≤ i
    each empty (inl e) p q = omega arith
    each empty (inr h) p q = let a = p h in omega arith
    each (root o' u' c' t' children' behind') h p q = let a = q h in omega arith

differs : (a b : ℕ) → (a ≡ b → ⊥) → (a == b) ≡ false
differs a b h = eq_not (Some a) (Some b) (λ e. h (let q : a ≡ b = cc in q))

-- after the end nothing changes
past_all : (f : Forest) (k i : ℕ) (e : Entry) → k + size_of f ≤ i → with_child_from k i e f ≡ f
past_all empty k i e h = refl
past_all (root o u c t children behind) k i e h =
    ap (λ b. if b then root o u c t (with_last_root e children) behind else root o u c t (with_child_from (k + 1) i e children) (with_child_from (k + 1 + size_of children) i e behind)) (differs i k (λ q. omega arith)) ∙
    ap (λ l. root o u c t l (with_child_from (k + 1 + size_of children) i e behind)) (past_all children (k + 1) i e (omega arith)) ∙
    ap (λ l. root o u c t children l) (past_all behind (k + 1 + size_of children) i e (omega arith))

-- one child more of an open entry is the last entry
pub last_child_of : (f : Forest) (up : Option ℕ) (k i : ℕ) (e : Entry) → IsOpen k i f → in_preorder up k (with_child_from k i e f) ≡ in_preorder up k f ++ under (Some i) e ∷ []
last_child_of empty up k i e h = absurd h
last_child_of (root o u c t children behind) up k i e h =
    each behind h (last_child_of children (Some k) (k + 1) i e) (last_child_of behind up (k + 1 + size_of children) i e)
  where
    r : Entry
    r = record { offset = o; unit = u; code = c; tag = t; up = up }

    each : (b : Forest) → if_empty b ((i ≡ k) ⊎ IsOpen (k + 1) i children) (IsOpen (k + 1 + size_of children) i b)
        → (IsOpen (k + 1) i children → in_preorder (Some k) (k + 1) (with_child_from (k + 1) i e children) ≡ in_preorder (Some k) (k + 1) children ++ under (Some i) e ∷ [])
        → (IsOpen (k + 1 + size_of children) i b → in_preorder up (k + 1 + size_of children) (with_child_from (k + 1 + size_of children) i e b) ≡ in_preorder up (k + 1 + size_of children) b ++ under (Some i) e ∷ [])
        → in_preorder up k (with_child_from k i e (root o u c t children b)) ≡ in_preorder up k (root o u c t children b) ++ under (Some i) e ∷ []
    each empty (inl q) p p' =
        ap (λ b. in_preorder up k (if b then root o u c t (with_last_root e children) empty else root o u c t (with_child_from (k + 1) i e children) empty)) (eq-eqb i k q) ∙
        push_children r (in_preorder (Some k) (k + 1) children) _ (under (Some i) e)
        (last_root children (Some k) (k + 1) e ∙ ap (λ n. in_preorder (Some k) (k + 1) children ++ under (Some n) e ∷ []) (sym q))
    each empty (inr h) p p' =
        let le = open_from children (k + 1) i h in
        ap (λ b. in_preorder up k (if b then root o u c t (with_last_root e children) empty else root o u c t (with_child_from (k + 1) i e children) empty)) (differs i k (λ q. omega arith)) ∙
        push_children r (in_preorder (Some k) (k + 1) children) _ (under (Some i) e) (p h)
    each (root o' u' c' t' children' behind') h p p' =
        let b : Forest = root o' u' c' t' children' behind' in
        let le = open_from b (k + 1 + size_of children) i h in
        ap (λ d. in_preorder up k (if d then root o u c t (with_last_root e children) b else root o u c t (with_child_from (k + 1) i e children) (with_child_from (k + 1 + size_of children) i e b))) (differs i k (λ q. omega arith)) ∙
        ap (λ l. in_preorder up k (root o u c t l (with_child_from (k + 1 + size_of children) i e b))) (past_all children (k + 1) i e le) ∙
        push_behind r (in_preorder (Some k) (k + 1) children) (in_preorder up (k + 1 + size_of children) b) _ (under (Some i) e) (p' h)
