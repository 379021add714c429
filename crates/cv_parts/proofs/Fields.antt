-- Fields one after the other: the readers of what begins with a number, a numeric leaf or a text are exact.
use Rattle.std.proofs.Common.{◌≡◌, ◌<◌, ℕ, ◌+◌, ℤ, List, ◌++◌, length, arith, ap, length-append}
use Rattle.rv_bytes.specs.Forms.{Form, Splits, follow}
use Rattle.rv_bytes.specs.Readers.{Reader, and_then}
use Rattle.rv_bytes.specs.Numbers.{number, text}
use Rattle.rv_bytes.specs.Leaves.{numeric}
use Rattle.rv_bytes.specs.NumberReaders.{read_number, read_text, read_numeric}
use Rattle.rv_bytes.proofs.Exact.{Exact, follow_exact}
use Rattle.rv_bytes.proofs.ByteNumbers.{number_exact}
use Rattle.rv_bytes.proofs.Leaves.{numeric_exact}
use Rattle.rv_bytes.proofs.CheckedTexts.{text_exact}

-- of a number and what follows it
pub number_then : {B : Type 0} (w : ℕ) (G : ℕ → Form ℕ B) (g : ℕ → Reader ℕ B) → ((a : ℕ) → Exact (G a) (g a)) → Exact (follow (number w) G) (λ n s. and_then (read_number w n s) g)
number_then w G g e = follow_exact (number w) G (read_number w) g (number_exact w) e

-- of a numeric leaf and what follows it
pub numeric_then : {B : Type 0} (G : ℤ → Form ℕ B) (g : ℤ → Reader ℕ B) → ((a : ℤ) → Exact (G a) (g a)) → Exact (follow numeric G) (λ n s. and_then (read_numeric n s) g)
numeric_then G g e = follow_exact numeric G read_numeric g numeric_exact e

-- of a text and what follows it
pub text_then : {B : Type 0} (G : List ℕ → Form ℕ B) (g : List ℕ → Reader ℕ B) → ((a : List ℕ) → Exact (G a) (g a)) → Exact (follow text G) (λ n s. and_then (read_text n s) g)
text_then G g e = follow_exact text G read_text g text_exact e

-- each value of a form has a byte
abbrev pub HasByte : {A : Type 0} → Form ℕ A → Type 0
HasByte {A} F = (n : ℕ) (v : A) (t : List ℕ) → F.spells n v t → 0 < length t

-- what begins with a byte has a byte
pub front_byte : (F : List ℕ → Type 0) (B : ℕ → List ℕ → Type 0) (n : ℕ) (t : List ℕ) → ((u : List ℕ) → F u → 0 < length u) → Splits F B n t → 0 < length t
front_byte F B n t f w = let one : 0 < length w.front = f w.front w.is_front in omega (arith, one, ap length w.split, length-append w.front w.back)

-- a number of at least one byte has a byte
pub number_byte : (w : ℕ) → 0 < w → HasByte (number w)
number_byte w h n v t s = omega (arith, s.1.1.1)
