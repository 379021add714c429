-- The readers of bytes and of numbers of so many bytes are exact.
use Rattle.std.proofs.Common.{◌≡◌, ℕ, ◌+◌, Bool, true, false, nat_le, if◌then◌else◌, List, ◌++◌, length, take, drop, refl, sym, ap, arith, length-append}
use Rattle.std.proofs.Math.Seq.{take-append_seam, drop-append_seam}
use Rattle.std.proofs.lemmas.List.{take-append-drop, length-take-le}
use Rattle.std.proofs.lemmas.Bool.{le-leb, lt-leb, leb-true, leb-false}
use Rattle.byteorder.specs.Endian.{little_number}
use Rattle.rv_bytes.specs.Rules.{short}
use Rattle.rv_bytes.specs.Readers.{got, bad}
use Rattle.rv_bytes.specs.Numbers.{bytes, number}
use Rattle.rv_bytes.specs.NumberReaders.{read_bytes, read_number}
use Rattle.rv_bytes.proofs.Exact.{Right, Exact, made_exact}

-- so many bytes
pub bytes_exact : (w : ℕ) → Exact (bytes w) (read_bytes w)
bytes_exact w = record {
  reads = λ n v t k h. taken n v t k h.0 h.1;
  refuses = λ n s r m h. rw (lt-leb w (length s) h.0, h.1.0, h.1.1) refl;
  right = λ n s. either n s (nat_le w (length s)) refl;
}
  where
    taken : (n : ℕ) (v t k : List ℕ) → v ≡ t → length t ≡ w → read_bytes w n (t ++ k) ≡ got v (n + length t) k
    taken n v t k h g =
        let fits : nat_le w (length (t ++ k)) ≡ true = le-leb w (length (t ++ k)) (omega (arith, g, length-append t k)) in
        rw (fits, h, ← g, take-append_seam t k, drop-append_seam t k) refl

    either : (n : ℕ) (s : List ℕ) (b : Bool) → nat_le w (length s) ≡ b → Right (bytes w) n s (if b then got (take w s) (n + w) (drop w s) else bad short n)
    either n s true e =
        let long : length (take w s) ≡ w = length-take-le w s (leb-true w (length s) e) in
        (take w s, ((refl, long), (sym (take-append-drop w s), ap (λ j. n + j) (sym long))))
    either n s false e = (leb-false w (length s) e, (refl, refl))

-- a number of so many bytes
pub number_exact : (w : ℕ) → Exact (number w) (read_number w)
number_exact w = made_exact (little_number w) (bytes w) (read_bytes w) (bytes_exact w)
