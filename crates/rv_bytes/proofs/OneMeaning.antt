-- Bytes of a definite form say at most one thing.
use Rattle.std.proofs.Common.{◌≡◌, ℕ, List, [], ◌++◌, Option, Some, None, inl, inr, refl, sym, ap, subst, ◌∙◌, append-nil}
use Rattle.rv_bytes.specs.Forms.{Form, IsDefinite}
use Rattle.rv_bytes.specs.Meanings.{Meaning, Says, IsOutside, IsOneMeaning}

-- the theorems on one meaning follow from those of the form
pub one_meaning : {M A B : Type 0} (P : Meaning M A B) → IsDefinite P.form → IsOneMeaning P
one_meaning {M} {A} {B} P d = record {
  one_said = λ s a b h g. h.1.1.1 ∙ ap P.said (same s h.0 g.0 h.1.0 g.1.0) ∙ sym g.1.1.1;
  one_fault = λ s r q m k h g. faults s r q m k h g;
  never_both = λ s b r m h g. elim g [
    | inl f ↦ d.never_both 0 h.0 s [] r m h.1.0 (subst (λ t. P.form.faults 0 t r m) (sym (append-nil s)) f)
    | inr w ↦ clash (P.fault h.0) r m h.1.1.0 (ap P.fault (same s h.0 w.0 h.1.0 w.1.0) ∙ w.1.1)
  ];
}
  where
    same : (s : List ℕ) (v w : A) → P.form.spells 0 v s → P.form.spells 0 w s → v ≡ w
    same s v w h g = (d.one_value 0 v w s s [] [] h g refl).0

    clash : (o : Option (ℕ × M)) (r : ℕ) (m : M) → o ≡ None → o ≡ Some (r, m) → ⊥
    clash o r m h g = let x : ◌≡◌ {A = Option (ℕ × M)} None (Some (r, m)) = sym h ∙ g in cc

    pairs : (o : Option (ℕ × M)) (r q : ℕ) (m k : M) → o ≡ Some (r, m) → o ≡ Some (q, k) → (r ≡ q) × (m ≡ k)
    pairs o r q m k h g =
        let fst : ℕ × M → ℕ = λ y. y.0 in let snd : ℕ × M → M = λ y. y.1 in
        let x : ◌≡◌ {A = Option (ℕ × M)} (Some (r, m)) (Some (q, k)) = sym h ∙ g in
        let two : ℕ × M = (r, m) in let three : ℕ × M = (q, k) in
        let e : two ≡ three = cc in (ap fst e, ap snd e)

    split_fault : (s : List ℕ) (v : A) (r : ℕ) (m : M) → P.form.spells 0 v s → P.form.faults 0 s r m → ⊥
    split_fault s v r m h f = d.never_both 0 v s [] r m h (subst (λ t. P.form.faults 0 t r m) (sym (append-nil s)) f)

    faults : (s : List ℕ) (r q : ℕ) (m k : M) → IsOutside P s r m → IsOutside P s q k → (r ≡ q) × (m ≡ k)
    faults s r q m k (inl h) (inl g) = d.one_fault 0 s r q m k h g
    faults s r q m k (inl h) (inr g) = absurd (split_fault s g.0 r m g.1.0 h)
    faults s r q m k (inr h) (inl g) = absurd (split_fault s h.0 q k h.1.0 g)
    faults s r q m k (inr h) (inr g) = pairs (P.fault g.0) r q m k (ap P.fault (sym (same s h.0 g.0 h.1.0 g.1.0)) ∙ h.1.1) g.1.1
