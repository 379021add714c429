-- An exact reader of a section makes it have one reading.
use Rattle.std.proofs.Common.{◌≡◌, ℕ, List, [], length, refl, sym, subst, append-nil}
use Rattle.rv_bytes.specs.Forms.{Form, IsDefinite}
use Rattle.rv_bytes.specs.Readers.{Reader}
use Rattle.rv_bytes.proofs.Exact.{Exact, definite}
use Rattle.cv_parts.specs.Laws.{HasOneReading}

pub one_reading : {A : Type 0} (F : ℕ → Form ℕ A) (f : ℕ → Reader ℕ A) → ((size : ℕ) → Exact (F size) (f size)) → HasOneReading F
one_reading {A} F f e = record {
  one_value = λ s v w h g. ((d s).one_value 0 v w s s [] [] h g refl).0;
  one_fault = λ s r q m k h g. (d s).one_fault 0 s r q m k h g;
  never_both = λ s v r m h g. (d s).never_both 0 v s [] r m h (subst (λ t. (F (length s)).faults 0 t r m) (sym (append-nil s)) g);
}
  where
    d : (s : List ℕ) → IsDefinite (F (length s))
    d s = definite (F (length s)) (f (length s)) (e (length s))
