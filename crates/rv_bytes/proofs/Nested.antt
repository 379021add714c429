-- Readers in other bytes are exact.
use Rattle.std.proofs.Common.{◌≡◌, ◌<◌, ◌≤◌, ℕ, ◌+◌, Bool, true, false, nat_le, if◌then◌else◌, List, [], ◌∷◌, ◌++◌, length, take, drop, inl, inr, refl, sym, ap, subst, ◌∙◌, arith, append-nil, length-append, add-zero}
use Rattle.std.proofs.Math.Seq.{take-append_seam, drop-append_seam}
use Rattle.std.proofs.lemmas.List.{take-append-drop, length-take-le}
use Rattle.std.proofs.lemmas.Bool.{le-leb, lt-leb, leb-true, leb-false}
use Rattle.rv_bytes.specs.Forms.{Form, Splits}
use Rattle.rv_bytes.specs.Readers.{Res, got, bad, Reader}
use Rattle.rv_bytes.specs.Rules.{short}
use Rattle.rv_bytes.specs.Nested.{boxed, elsewhere, within}
use Rattle.rv_bytes.specs.NestedReaders.{resume, read_boxed, read_elsewhere, spotted}
use Rattle.rv_bytes.proofs.Exact.{Right, Exact}

-- what begins some bytes is read from them
begins : {M A : Type 0} (F : Form M A) (f : Reader M A) → Exact F f → (n p : ℕ) (v : A) (t k : List ℕ) → Splits (F.spells n v) (λ _ _. Unit {0}) n t → resume p k (f n t) ≡ got v p k
begins F f e n p v t k w = ap (λ z. resume p k (f n z)) w.split ∙ ap (resume p k) (e.reads n v w.front w.back w.is_front)

-- the reader of so many bytes
pub boxed_exact : {M A : Type 0} (place : M) (l : ℕ) (F : Form M A) (f : Reader M A) → Exact F f → Exact (boxed place l F) (read_boxed place l f)
boxed_exact {M} {A} place l F f e = record {
  reads = λ n v t k h. inside n v t k h.0 h.1;
  refuses = λ n s r m h. elim h [
    | inl a ↦ rw (lt-leb l (length s) a.0, a.1.0, a.1.1) refl
    | inr b ↦ rw (le-leb l (length s) b.0) (ap (resume (n + l) (drop l s)) (e.refuses n (take l s) r m b.1))
  ];
  right = λ n s. either n s (nat_le l (length s)) refl (f n (take l s)) (e.right n (take l s));
}
  where
    inside : (n : ℕ) (v : A) (t k : List ℕ) → length t ≡ l → Splits (F.spells n v) (λ _ _. Unit {0}) n t → read_boxed place l f n (t ++ k) ≡ got v (n + length t) k
    inside n v t k h w =
        let fits : nat_le l (length (t ++ k)) ≡ true = le-leb l (length (t ++ k)) (omega (arith, h, length-append t k)) in
        rw (fits, ← h, take-append_seam t k, drop-append_seam t k) (begins F f e n (n + length t) v t k w)

    either : (n : ℕ) (s : List ℕ) (b : Bool) → nat_le l (length s) ≡ b → (x : Res M A) → Right F n (take l s) x → Right (boxed place l F) n s (if b then resume (n + l) (drop l s) x else bad short place)
    either n s true h (got v m k) w =
        let long : length (take l s) ≡ l = length-take-le l s (leb-true l (length s) h) in
        (take l s, ((long, record { front = w.0; back = k; split = w.1.1.0; is_front = w.1.0; is_back = tt }), (sym (take-append-drop l s), ap (λ j. n + j) (sym long))))
    either n s true h (bad r m) w = inr (leb-true l (length s) h, w)
    either n s false h x w = inl (leb-false l (length s) h, (refl, refl))

-- the reader of other bytes
pub elsewhere_exact : {M A : Type 0} (other : List ℕ) (at : ℕ) (F : Form M A) (f : Reader M A) → Exact F f → Exact (elsewhere other at F) (read_elsewhere other at f)
elsewhere_exact {M} {A} other at F f e = record {
  reads = λ n v t k h. begins F f e at n v (drop at other) (t ++ k) h.1 ∙ rw h.0 (ap (λ j. got v j k) (sym (add-zero n)));
  refuses = λ n s r m h. ap (resume n s) (e.refuses at (drop at other) r m h);
  right = λ n s. whole n s (f at (drop at other)) (e.right at (drop at other));
}
  where
    whole : (n : ℕ) (s : List ℕ) (x : Res M A) → Right F at (drop at other) x → Right (elsewhere other at F) n s (resume n s x)
    whole n s (got v m k) w = ([], ((refl, record { front = w.0; back = k; split = w.1.1.0; is_front = w.1.0; is_back = tt }), (refl, sym (add-zero n))))
    whole n s (bad r m) w = w

-- the reader whose faults stand at places of another kind
pub within_exact : {M N A : Type 0} (spot : M → N) (F : Form M A) (f : Reader M A) → Exact F f → Exact (within spot F) (λ n s. spotted spot (f n s))
within_exact {M} {N} {A} spot F f e = record {
  reads = λ n v t k h. ap (spotted spot) (e.reads n v t k h);
  refuses = λ n s r j h. ap (spotted spot) (e.refuses n s r h.0 h.1.1) ∙ ap (bad r) (sym h.1.0);
  right = λ n s. whole n s (f n s) (e.right n s);
}
  where
    whole : (n : ℕ) (s : List ℕ) (x : Res M A) → Right F n s x → Right (within spot F) n s (spotted spot x)
    whole n s (got v m k) w = w
    whole n s (bad r m) w = (m, (refl, w))
