-- What the words after the first one tell of the rules that they break.
use Rattle.std.proofs.Common.{◌≡◌, ◌≢◌, ◌∙◌, sym, subst, refl, ℕ, ◌≤◌, ◌^◌, false, cond, List, arith, Some, None, Ok, codes}
use Rattle.std.proofs.lemmas.Slice.Eq.{bytes_eq-Decides}
use Rattle.std.proofs.lemmas.Option.{same_Some}
use Rattle.std.specs.Str.{bytes_eq}
use Rattle.readers.specs.Lines.{only}
use Rattle.readers.specs.Hex.{hex_of}
use Rattle.readers.proofs.HexWords.{spelling_of, hex_some}
use Rattle.snapshot_file.specs.Reading.{◌>>=◌, or_bad, bad, number_of_line}
use Rattle.snapshot_file.specs.Faults.{IsNumber, BreaksVersion, version_count, other_version, BreaksNumber, number_count, no_number}
use Rattle.snapshot_file.proofs.Lowest.{Tells, or_bad_tells, or_bad_last, cond_tells}

pub not_equal : (a b : List ℕ) → bytes_eq a b ≡ false → a ≢ b
not_equal a b e h = let same = (bytes_eq-Decides a b).1 h in cc

-- the version

pub version_low : (more : List (List ℕ)) (n : ℕ) → BreaksVersion more n → 3 ≤ n
version_low more n (version_count e r) = omega arith
version_low more n (other_version word e h r) = omega arith

version_next : (more : List (List ℕ)) (word : List ℕ) (n : ℕ) → only more ≡ Some word → BreaksVersion more n → 4 ≤ n
version_next more word n k (version_count e r) = absurd (cc)
version_next more word n k (other_version w e h r) = omega arith

version_fine : (more : List (List ℕ)) (word : List ℕ) (n : ℕ) → only more ≡ Some word → word ≡ codes "1" → BreaksVersion more n → ⊥
version_fine more word n k same (version_count e r) = cc
version_fine more word n k same (other_version w e h r) = h (same_Some w word (sym e ∙ k) ∙ same)

pub version_tells : {X : Type 0} (O : Type 0) (line : ℕ) (more : List (List ℕ)) (x : X) → Tells (BreaksVersion more) O line (or_bad line 3 (only more) >>= λ version. cond (bytes_eq version (codes "1")) (Ok x) (bad line 4))
version_tells O line more x =
    or_bad_tells (BreaksVersion more) O line 3 (only more) (λ version. cond (bytes_eq version (codes "1")) (Ok x) (bad line 4))
    (λ e. (version_count e refl, version_low more))
    (λ w e. cond_tells (BreaksVersion more) O line (bytes_eq w (codes "1")) (Ok x) (bad line 4)
    (λ t n b. version_fine more w n e ((bytes_eq-Decides w (codes "1")).0 t) b)
    (λ f. (refl, (other_version w e (not_equal w (codes "1") f) refl, λ n b. version_next more w n e b))))

-- a number

pub number_low : (more : List (List ℕ)) (n : ℕ) → BreaksNumber more n → 3 ≤ n
number_low more n (number_count e r) = omega arith
number_low more n (no_number word e h r) = omega arith

number_next : (more : List (List ℕ)) (word : List ℕ) (n : ℕ) → only more ≡ Some word → BreaksNumber more n → 4 ≤ n
number_next more word n k (number_count e r) = absurd (cc)
number_next more word n k (no_number w e h r) = omega arith

number_fine : (more : List (List ℕ)) (word : List ℕ) (n : ℕ) → only more ≡ Some word → IsNumber (2 ^ 64) word → BreaksNumber more n → ⊥
number_fine more word n k is (number_count e r) = cc
number_fine more word n k is (no_number w e h r) = h (subst (IsNumber (2 ^ 64)) (sym (same_Some w word (sym e ∙ k))) is)

pub no_hex : (word : List ℕ) → hex_of word ≡ None → IsNumber (2 ^ 64) word → ⊥
no_hex word e is = let some = hex_some word is.0 is.1.0 is.1.1 in cc

pub number_tells : (O : Type 0) (line : ℕ) (more : List (List ℕ)) → Tells (BreaksNumber more) O line (number_of_line line more)
number_tells O line more =
    or_bad_tells (BreaksNumber more) O line 3 (only more) (λ word. or_bad line 4 (hex_of word))
    (λ e. (number_count e refl, number_low more))
    (λ w e. or_bad_last (BreaksNumber more) O line 4 (hex_of w)
    (λ none. (no_number w e (no_hex w none) refl, λ n b. number_next more w n e b))
    (λ k some n b. number_fine more w n e (k, spelling_of w k some) b))
