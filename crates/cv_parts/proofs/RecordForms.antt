-- The readers of records are exact.
use Rattle.std.proofs.Common.{◌≡◌, ◌<◌, ℕ, ◌+◌, ◌-◌, List, [], ◌++◌, length, refl, sym, ap, ◌∙◌, arith, add-zero, lit<}
use Rattle.rv_bytes.specs.Forms.{Form, Splits, follow, made, here}
use Rattle.rv_bytes.specs.Readers.{Res, got, bad, Reader, and_then, with_value}
use Rattle.rv_bytes.specs.NestedReaders.{resume}
use Rattle.rv_bytes.specs.Numbers.{bytes, number}
use Rattle.rv_bytes.specs.NumberReaders.{read_bytes, read_number}
use Rattle.rv_bytes.proofs.Exact.{Right, Exact, follow_exact, made_exact, here_exact, item_exact}
use Rattle.rv_bytes.proofs.ByteNumbers.{bytes_exact, number_exact}
use Rattle.cv_parts.specs.Records.{inside, content_breaks, content, kind_then, a_record, signature_breaks, signature}
use Rattle.cv_parts.specs.RecordReaders.{read_inside, read_content, read_kind_then, read_a_record, read_signature}
use Rattle.cv_parts.proofs.Fields.{HasByte, number_then, number_byte, front_byte}

-- the reader of other bytes
pub inside_exact : {A : Type 0} (at : ℕ) (other : List ℕ) (F : Form ℕ A) (f : Reader ℕ A) → Exact F f → Exact (inside at other F) (read_inside at other f)
inside_exact {A} at other F f e = record {
  reads = λ n v t k h. begins n v (t ++ k) h.1 ∙ rw h.0 (ap (λ j. got v j k) (sym (add-zero n)));
  refuses = λ n s r m h. ap (resume n s) (e.refuses at other r m h);
  right = λ n s. whole n s (f at other) (e.right at other);
}
  where
    begins : (n : ℕ) (v : A) (k : List ℕ) → Splits (F.spells at v) (λ _ _. Unit {0}) at other → resume n k (f at other) ≡ got v n k
    begins n v k w = ap (λ z. resume n k (f at z)) w.split ∙ ap (resume n k) (e.reads at v w.front w.back w.is_front)

    whole : (n : ℕ) (s : List ℕ) (x : Res ℕ A) → Right F at other x → Right (inside at other F) n s (resume n s x)
    whole n s (got v m k) w = ([], ((refl, record { front = w.0; back = k; split = w.1.1.0; is_front = w.1.0; is_back = tt }), (refl, sym (add-zero n))))
    whole n s (bad r m) w = w

pub content_exact : Exact content read_content
content_exact = item_exact (follow (number 2) bytes) (λ n s. and_then (read_number 2 n s) read_bytes) content_breaks (number_then 2 bytes read_bytes bytes_exact)

pub signature_exact : Exact signature read_signature
signature_exact = item_exact (number 4) (read_number 4) signature_breaks (number_exact 4)

pub kind_then_exact : {A : Type 0} (F : ℕ → ℕ → Form ℕ A) (f : ℕ → ℕ → Reader ℕ A) → ((kind size : ℕ) → Exact (F kind size) (f kind size)) → (size : ℕ) → Exact (kind_then F size) (read_kind_then f size)
kind_then_exact F f e size = number_then 2 _ _ (λ kind. e kind (size - 2))

-- a record that begins at place p, from its length on
placed_exact : {A : Type 0} (F : ℕ → ℕ → Form ℕ A) (f : ℕ → ℕ → Reader ℕ A) → ((kind size : ℕ) → Exact (F kind size) (f kind size)) → (p : ℕ)
    → Exact (follow content (λ c. inside (p + 2) c (kind_then F (length c)))) (λ n s. and_then (read_content n s) (λ c m k. read_inside (p + 2) c (read_kind_then f (length c)) m k))
placed_exact F f e p = follow_exact content _ read_content _ content_exact (λ c. inside_exact (p + 2) c (kind_then F (length c)) (read_kind_then f (length c)) (kind_then_exact F f e (length c)))

pub record_exact : {A B : Type 0} (g : ℕ → A → B) (F : ℕ → ℕ → Form ℕ A) (f : ℕ → ℕ → Reader ℕ A) → ((kind size : ℕ) → Exact (F kind size) (f kind size)) → Exact (a_record g F) (read_a_record g f)
record_exact g F f e =
    here_exact (λ p. made (g p) (follow content (λ c. inside (p + 2) c (kind_then F (length c)))))
    (λ p n s. with_value (g p) (and_then (read_content n s) (λ c m k. read_inside (p + 2) c (read_kind_then f (length c)) m k)))
    (λ p. made_exact (g p) (follow content (λ c. inside (p + 2) c (kind_then F (length c)))) (λ n s. and_then (read_content n s) (λ c m k. read_inside (p + 2) c (read_kind_then f (length c)) m k)) (placed_exact F f e p))

-- a length has a byte, and so has a record
content_byte : HasByte content
content_byte n c t w = front_byte _ _ n t (λ x y. number_byte 2 (lit< tt) n w.0.0 x y) w.0.1

pub record_byte : {A B : Type 0} (g : ℕ → A → B) (F : ℕ → ℕ → Form ℕ A) → HasByte (a_record g F)
record_byte g F n v t h = front_byte _ _ n t (λ x y. content_byte n h.1.1.0 x y) h.1.1.1
