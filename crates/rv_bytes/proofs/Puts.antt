-- What is appended part by part is spelled: one value and the next, the values of a row.
use Rattle.std.proofs.Common.{◌≡◌, ◌<◌, ℕ, ◌+◌, ◌^◌, Bool, true, false, List, [], ◌∷◌, ◌++◌, length, Option, None, refl, sym, ap, subst, ◌∙◌, arith, append_assoc, append-nil, length-append, add-zero, take, Result, Ok, Err, OnOk}
use Rattle.std.proofs.Math.Seq.{take-append_seam}
use Rattle.byteorder.specs.Endian.{little_number, little_bytes}
use Rattle.byteorder.specs.Numbers.{little_number-reads_back, length-bytes_low_first}
use Rattle.rv_bytes.specs.Forms.{Form, Splits, nothing, follow, made, item, choose, Steps, RowSpells, row}
use Rattle.rv_bytes.specs.Numbers.{number}
use Rattle.rv_bytes.specs.Writers.{IsPut, Extends, AppendsShortest}

-- what was appended of one value, and of the next, is what was appended of both
pub put_then : {A B : Type 0} (F : Form ℕ A) (G : A → Form ℕ B) (v : A) (w : B) (old mid new : List ℕ) → IsPut F v old mid → IsPut (G v) w mid new → IsPut (follow F G) w old new
put_then F G v w old mid new a b = record {
  bytes = a.bytes ++ b.bytes;
  appended = b.appended ∙ ap (λ l. l ++ b.bytes) a.appended ∙ append_assoc old a.bytes b.bytes;
  spelled = λ n. (v, record { front = a.bytes; back = b.bytes; split = refl; is_front = a.spelled n; is_back = b.spelled (n + length a.bytes) });
}

-- the value that f makes of what was appended
pub put_made : {A B : Type 0} (f : A → B) (F : Form ℕ A) (v : A) (old new : List ℕ) → IsPut F v old new → IsPut (made f F) (f v) old new
put_made f F v old new a = record { bytes = a.bytes; appended = a.appended; spelled = λ n. (v, (refl, a.spelled n)) }

-- a value that breaks no rule
pub put_item : {A : Type 0} (F : Form ℕ A) (breaks : A → Option ℕ) (v : A) (old new : List ℕ) → breaks v ≡ None → IsPut F v old new → IsPut (item F breaks) v old new
put_item F breaks v old new e a = record { bytes = a.bytes; appended = a.appended; spelled = λ n. (a.spelled n, e) }

-- a value in no bytes
pub put_nothing : {A : Type 0} (v : A) (old : List ℕ) → IsPut (nothing v) v old old
put_nothing v old = record { bytes = []; appended = sym (append-nil old); spelled = λ n. (refl, refl) }

-- the first of two forms
pub put_first : {A : Type 0} (b : Bool) (F G : Form ℕ A) (v : A) (old new : List ℕ) → b ≡ true → IsPut F v old new → IsPut (choose b F G) v old new
put_first b F G v old new e a = subst (λ b. IsPut (choose b F G) v old new) (sym e) a

-- or the second
pub put_second : {A : Type 0} (b : Bool) (F G : Form ℕ A) (v : A) (old new : List ℕ) → b ≡ false → IsPut G v old new → IsPut (choose b F G) v old new
put_second b F G v old new e a = subst (λ b. IsPut (choose b F G) v old new) (sym e) a

-- a shortest spelling
pub put_shortest : {A : Type 0} (F : Form ℕ A) (v : A) (old new : List ℕ) → AppendsShortest F v old new → IsPut F v old new
put_shortest F v old new a = record { bytes = a.spelling; appended = a.appended; spelled = a.shortest.spells }

-- a number of so many bytes, which it fits
pub put_number : (w v : ℕ) (old new : List ℕ) → v < 256 ^ w → new ≡ old ++ little_bytes w v → IsPut (number w) v old new
put_number w v old new h e = record {
  bytes = little_bytes w v;
  appended = e;
  spelled = λ n. (little_bytes w v, (sym (ap (little_number w) (sym (append-nil (little_bytes w v))) ∙ little_number-reads_back w v [] h), (refl, length-bytes_low_first 0 w v)));
}

-- the old bytes stay
pub put_extends : {A : Type 0} (F : Form ℕ A) (v : A) (old new : List ℕ) → IsPut F v old new → Extends old new
put_extends F v old new a = record { bytes = a.bytes; appended = a.appended }

-- so they do where nothing is appended
pub same_extends : (old new : List ℕ) → new ≡ old → Extends old new
same_extends old new e = record { bytes = []; appended = e ∙ sym (append-nil old) }

-- and where more and then more is appended
pub extends_more : (old mid new : List ℕ) → Extends old mid → Extends mid new → Extends old new
extends_more old mid new a b = record { bytes = a.bytes ++ b.bytes; appended = b.appended ∙ ap (λ l. l ++ b.bytes) a.appended ∙ append_assoc old a.bytes b.bytes }

-- cut back to their length, the bytes are the old ones
pub extends_back : (old new : List ℕ) → Extends old new → take (length old) new ≡ old
extends_back old new a = ap (take (length old)) a.appended ∙ take-append_seam old a.bytes

-- a part of a row: these values lead from one state to another
abbrev pub RowPart : {S A : Type 0} → Steps S A ℕ → S → ℕ → List A → List ℕ → S → Type 0
RowPart P s n [] t z = (s ≡ z) × (t ≡ [])
RowPart P s n (v ∷ vs) t z = (P.over s ≡ false) × Splits ((P.due s).spells n v) (λ m b. RowPart P (P.next s v) m vs b z) n t

-- one value more
pub row_push : {S A : Type 0} (P : Steps S A ℕ) (s : S) (n : ℕ) (vs : List A) (v : A) (t u : List ℕ) (z : S) → RowPart P s n vs t z → P.over z ≡ false → (P.due z).spells (n + length t) v u → RowPart P s n (vs ++ v ∷ []) (t ++ u) (P.next z v)
row_push P s n [] v t u z h o w = rw h.1 (subst (λ y. RowPart P y n (v ∷ []) u (P.next z v)) (sym h.0) (
  o,
  record {
    front = u;
    back = [];
    split = sym (append-nil u);
    is_front = subst (λ m. (P.due z).spells m v u) (ap (λ l. n + length l) h.1 ∙ add-zero n) w;
    is_back = (refl, refl);
  },
))
row_push P s n (x ∷ vs) v t u z h o w =
    let p = h.1 in
    let at : n + length t ≡ n + length p.front + length p.back = omega (arith, ap length p.split, length-append p.front p.back) in (
      h.0,
      record {
        front = p.front;
        back = p.back ++ u;
        split = ap (λ l. l ++ u) p.split ∙ append_assoc p.front p.back u;
        is_front = p.is_front;
        is_back = row_push P (P.next s x) (n + length p.front) vs v p.back u z p.is_back o (subst (λ m. (P.due z).spells m v u) at w);
      },
    )

-- a part that reaches a state in which the row is over is the row
pub row_whole : {S A : Type 0} (P : Steps S A ℕ) (s : S) (n : ℕ) (vs : List A) (t : List ℕ) (z : S) → RowPart P s n vs t z → P.over z ≡ true → RowSpells P s n vs t
row_whole P s n [] t z h o = (ap P.over h.0 ∙ o, h.1)
row_whole P s n (v ∷ vs) t z h o = let p = h.1 in (h.0, record { front = p.front; back = p.back; split = p.split; is_front = p.is_front; is_back = row_whole P (P.next s v) (n + length p.front) vs p.back z p.is_back o })

-- a part of a row was appended
pub record IsPart {S A : Type 0} (P : Steps S A ℕ) (s z : S) (vs : List A) (old new : List ℕ) : Type 0 where
  pub bytes : List ℕ
  pub appended : new ≡ old ++ bytes
  pub part : (n : ℕ) → RowPart P s n vs bytes z

-- at first no value was appended
pub part_none : {S A : Type 0} (P : Steps S A ℕ) (s : S) (old : List ℕ) → IsPart P s s [] old old
part_none P s old = record { bytes = []; appended = sym (append-nil old); part = λ n. (refl, refl) }

-- one value more was appended
pub part_push : {S A : Type 0} (P : Steps S A ℕ) (s z y : S) (vs : List A) (v : A) (old mid new : List ℕ) → IsPart P s z vs old mid → P.over z ≡ false → IsPut (P.due z) v mid new → P.next z v ≡ y → IsPart P s y (vs ++ v ∷ []) old new
part_push P s z y vs v old mid new a o b e = subst (λ y. IsPart P s y (vs ++ v ∷ []) old new) e (record {
  bytes = a.bytes ++ b.bytes;
  appended = b.appended ∙ ap (λ l. l ++ b.bytes) a.appended ∙ append_assoc old a.bytes b.bytes;
  part = λ n. row_push P s n vs v a.bytes b.bytes z (a.part n) o (b.spelled (n + length a.bytes));
})

-- where the row is over, all of it was appended
pub part_whole : {S A : Type 0} (P : Steps S A ℕ) (s z : S) (vs : List A) (old new : List ℕ) → IsPart P s z vs old new → P.over z ≡ true → IsPut (row P s) vs old new
part_whole P s z vs old new a o = record { bytes = a.bytes; appended = a.appended; spelled = λ n. row_whole P s n vs a.bytes z (a.part n) o }

-- the old bytes stay
pub part_extends : {S A : Type 0} (P : Steps S A ℕ) (s z : S) (vs : List A) (old new : List ℕ) → IsPart P s z vs old new → Extends old new
part_extends P s z vs old new a = record { bytes = a.bytes; appended = a.appended }

-- what a call appends where it succeeds carries over
pub on_ok : {A E : Type 0} {P Q : Type 0} → (P → Q) → (o : Result A E) → OnOk o P → OnOk o Q
on_ok f (Ok v) h = f h
on_ok f (Err d) h = tt
