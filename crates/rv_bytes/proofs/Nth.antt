-- Each value of a row stands at its place, and is read there again.
use Rattle.std.proofs.Common.{◌≡◌, ◌<◌, ◌≤◌, ℕ, zero, suc, ◌+◌, ◌-◌, Bool, true, false, List, [], ◌∷◌, ◌++◌, length, drop, Option, Some, None, refl, sym, ap, subst, ◌∙◌, arith, append_assoc, length-append, add-zero}
use Rattle.std.specs.Prelude.{slice_get}
use Rattle.std.proofs.Math.Seq.{drop-append_seam}
use Rattle.rv_bytes.specs.Forms.{Form, Splits, Steps, RowSpells, row}
use Rattle.rv_bytes.specs.Readers.{Res, got, bad, Reader}
use Rattle.rv_bytes.proofs.Exact.{Exact}
use Rattle.rv_bytes.proofs.Rows.{AllExact}

-- among these bytes from place n on, v stands at place m, and bytes follow it
pub record Stands {S A M : Type 0} (P : Steps S A M) (v : A) (n : ℕ) (t : List ℕ) : Type 0 where
  pub state : S
  pub before : List ℕ
  pub own : List ℕ
  pub after : List ℕ
  pub split : t ≡ before ++ (own ++ after)
  pub due : P.over state ≡ false
  pub spells : (P.due state).spells (n + length before) v own

-- each value of a row stands somewhere among its bytes
pub nth : {S A M : Type 0} (P : Steps S A M) (s : S) (n : ℕ) (vs : List A) (t : List ℕ) → RowSpells P s n vs t → (i : ℕ) (v : A) → slice_get vs i ≡ Some v → Stands P v n t
nth P s n [] t h i v e = absurd (cc)
nth P s n (w ∷ vs) t h zero v e =
    let p = h.1 in
    let same : w ≡ v = cc in
    record {
      state = s;
      before = [];
      own = p.front;
      after = p.back;
      split = p.split;
      due = h.0;
      spells = subst (λ m. (P.due s).spells m v p.front) (sym (add-zero n)) (subst (λ x. (P.due s).spells n x p.front) same p.is_front);
    }
nth P s n (w ∷ vs) t h (suc i) v e =
    let p = h.1 in
    let q = nth P (P.next s w) (n + length p.front) vs p.back p.is_back i v e in
    record {
      state = q.state;
      before = p.front ++ q.before;
      own = q.own;
      after = q.after;
      split = p.split ∙ ap (λ l. p.front ++ l) q.split ∙ sym (append_assoc p.front q.before (q.own ++ q.after));
      due = q.due;
      spells = subst (λ m. (P.due q.state).spells m v q.own) (omega (arith, length-append p.front q.before)) q.spells;
    }

-- so a reader of the form gives it again there, whatever follows the row
pub again : {S A M : Type 0} (P : Steps S A M) (read : S → Reader M A) → AllExact P read → (n : ℕ) (t k : List ℕ) (v : A) (w : Stands P v n t)
    → read w.state (n + length w.before) (drop (length w.before) (t ++ k)) ≡ got v (n + length w.before + length w.own) (w.after ++ k)
again P read e n t k v w =
    let whole : t ++ k ≡ w.before ++ (w.own ++ (w.after ++ k)) =
    ap (λ l. l ++ k) w.split ∙ append_assoc w.before (w.own ++ w.after) k ∙ ap (λ l. w.before ++ l) (append_assoc w.own w.after k) in
    ap (λ l. read w.state (n + length w.before) (drop (length w.before) l)) whole
    ∙ ap (read w.state (n + length w.before)) (drop-append_seam w.before (w.own ++ (w.after ++ k)))
    ∙ (e w.state w.due).reads (n + length w.before) v w.own (w.after ++ k) w.spells
