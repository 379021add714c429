-- What is appended part by part is spelled at the places where it stands: one value and the next, the values of a row.
use Rattle.std.proofs.Common.{◌≡◌, ◌≤◌, ℕ, ◌+◌, Bool, true, false, List, [], ◌∷◌, ◌++◌, length, Option, None, refl, sym, ap, subst, ◌∙◌, append_assoc, append-nil, length-append, arith}
use Rattle.rv_bytes.specs.Forms.{Form, Splits, nothing, follow, made, here, item, choose, Steps, row}
use Rattle.rv_bytes.specs.Nested.{boxed}
use Rattle.rv_bytes.specs.Writers.{IsPut, IsPutHere}
use Rattle.rv_bytes.proofs.Puts.{RowPart, row_push, row_whole}

-- where the next bytes stand
next_place : (old mid bytes : List ℕ) → mid ≡ old ++ bytes → length mid ≡ length old + length bytes
next_place old mid bytes e = ap length e ∙ length-append old bytes

-- what is spelled at each place is spelled here
pub put_here : {A : Type 0} (F : Form ℕ A) (v : A) (old new : List ℕ) → IsPut F v old new → IsPutHere F v old new
put_here F v old new a = record { bytes = a.bytes; appended = a.appended; spelled = a.spelled (length old) }

-- what was appended of one value, and of the next, is what was appended of both
pub here_then : {A B : Type 0} (F : Form ℕ A) (G : A → Form ℕ B) (v : A) (w : B) (old mid new : List ℕ) → IsPutHere F v old mid → IsPutHere (G v) w mid new → IsPutHere (follow F G) w old new
here_then F G v w old mid new a b = record {
  bytes = a.bytes ++ b.bytes;
  appended = b.appended ∙ ap (λ l. l ++ b.bytes) a.appended ∙ append_assoc old a.bytes b.bytes;
  spelled = (
    v,
    record {
      front = a.bytes;
      back = b.bytes;
      split = refl;
      is_front = a.spelled;
      is_back = subst (λ m. (G v).spells m w b.bytes) (next_place old mid a.bytes a.appended) b.spelled;
    },
  );
}

-- the value that f makes of what was appended
pub here_made : {A B : Type 0} (f : A → B) (F : Form ℕ A) (v : A) (old new : List ℕ) → IsPutHere F v old new → IsPutHere (made f F) (f v) old new
here_made f F v old new a = record { bytes = a.bytes; appended = a.appended; spelled = (v, (refl, a.spelled)) }

-- a value that breaks no rule
pub here_item : {A : Type 0} (F : Form ℕ A) (breaks : A → Option ℕ) (v : A) (old new : List ℕ) → breaks v ≡ None → IsPutHere F v old new → IsPutHere (item F breaks) v old new
here_item F breaks v old new e a = record { bytes = a.bytes; appended = a.appended; spelled = (a.spelled, e) }

-- a value of what may stand at its place
pub here_placed : {A : Type 0} (F : ℕ → Form ℕ A) (v : A) (old new : List ℕ) → IsPutHere (F (length old)) v old new → IsPutHere (here F) v old new
here_placed F v old new a = record { bytes = a.bytes; appended = a.appended; spelled = a.spelled }

-- a value in so many bytes
pub here_boxed : {A : Type 0} (place size : ℕ) (F : Form ℕ A) (v : A) (old new : List ℕ) → length new ≡ length old + size → IsPutHere F v old new → IsPutHere (boxed place size F) v old new
here_boxed place size F v old new e a = record {
  bytes = a.bytes;
  appended = a.appended;
  spelled = (
    fits (length old) (length a.bytes) size (sym (next_place old new a.bytes a.appended) ∙ e),
    record { front = a.bytes; back = []; split = sym (append-nil a.bytes); is_front = a.spelled; is_back = tt },
  );
}
  where
    fits : (n j k : ℕ) → n + j ≡ n + k → j ≡ k
    fits n j k e = omega arith

-- the first of two forms
pub here_first : {A : Type 0} (b : Bool) (F G : Form ℕ A) (v : A) (old new : List ℕ) → b ≡ true → IsPutHere F v old new → IsPutHere (choose b F G) v old new
here_first b F G v old new e a = subst (λ b. IsPutHere (choose b F G) v old new) (sym e) a

-- or the second
pub here_second : {A : Type 0} (b : Bool) (F G : Form ℕ A) (v : A) (old new : List ℕ) → b ≡ false → IsPutHere G v old new → IsPutHere (choose b F G) v old new
here_second b F G v old new e a = subst (λ b. IsPutHere (choose b F G) v old new) (sym e) a

-- a part of a row was appended at its place
pub record IsPartHere {S A : Type 0} (P : Steps S A ℕ) (s z : S) (vs : List A) (old new : List ℕ) : Type 0 where
  pub bytes : List ℕ
  pub appended : new ≡ old ++ bytes
  pub part : RowPart P s (length old) vs bytes z

-- at first no value was appended
pub part_here_none : {S A : Type 0} (P : Steps S A ℕ) (s : S) (old : List ℕ) → IsPartHere P s s [] old old
part_here_none P s old = record { bytes = []; appended = sym (append-nil old); part = (refl, refl) }

-- one value more was appended
pub part_here_push : {S A : Type 0} (P : Steps S A ℕ) (s z y : S) (vs : List A) (v : A) (old mid new : List ℕ)
    → IsPartHere P s z vs old mid → P.over z ≡ false → IsPutHere (P.due z) v mid new → P.next z v ≡ y → IsPartHere P s y (vs ++ v ∷ []) old new
part_here_push P s z y vs v old mid new a o b e = subst (λ y. IsPartHere P s y (vs ++ v ∷ []) old new) e (record {
  bytes = a.bytes ++ b.bytes;
  appended = b.appended ∙ ap (λ l. l ++ b.bytes) a.appended ∙ append_assoc old a.bytes b.bytes;
  part = row_push P s (length old) vs v a.bytes b.bytes z a.part o (subst (λ m. (P.due z).spells m v b.bytes) (next_place old mid a.bytes a.appended) b.spelled);
})

-- where the row is over, all of it was appended
pub part_here_whole : {S A : Type 0} (P : Steps S A ℕ) (s z : S) (vs : List A) (old new : List ℕ) → IsPartHere P s z vs old new → P.over z ≡ true → IsPutHere (row P s) vs old new
part_here_whole P s z vs old new a o = record { bytes = a.bytes; appended = a.appended; spelled = row_whole P s (length old) vs a.bytes z a.part o }
