-- What the words after `mem` tell of the rules that they break.
use Rattle.std.proofs.Common.{◌≡◌, ◌∙◌, sym, ap, subst, refl, ℕ, ◌+◌, ◌<◌, ◌≤◌, ◌^◌, cond, List, [], ◌∷◌, length, arith, Some, Result, Ok, Err, nat_lt, lit≤}
use Rattle.std.proofs.lemmas.Bool.{ltb-false, ltb-true}
use Rattle.std.proofs.lemmas.Option.{same_Some}
use Rattle.hex.specs.Hex.{decode_of}
use Rattle.hex.specs.declared.error.FromHexError.{FromHexError}
use Rattle.readers.specs.Lines.{two}
use Rattle.readers.specs.Hex.{hex_text, hex_of}
use Rattle.readers.proofs.HexWords.{spelling_of, one_number}
use Rattle.snapshot_file.specs.declared.fault.SnapErr.{SnapErr}
use Rattle.snapshot_file.specs.declared.fault.SnapErr.TheVariants as faults
use Rattle.snapshot_file.specs.declared.snapshot.Stage.TheVariants as stages
use Rattle.snapshot_file.specs.declared.snapshot.Reading.{Reading}
use Rattle.snapshot_file.specs.Memory.{Run}
use Rattle.snapshot_file.specs.Spans.{with_bytes, last_end}
use Rattle.snapshot_file.specs.Reading.{◌>>=◌, or_bad, bad, after, pairs, memory_line, segment_line}
use Rattle.snapshot_file.specs.Faults.{IsNumber, IsLowest, BreaksMemory, memory_count, no_address, no_bytes, past_end}
use Rattle.snapshot_file.proofs.Lowest.{Tells, or_bad_tells, cond_tells}
use Rattle.snapshot_file.proofs.WordFaults.{no_hex}

-- the words tell a segment without a fault, which begins below an address
pub record IsBelow (end : ℕ) (more : List (List ℕ)) : Type 0 where
  pub segment : Run
  pub digits : List ℕ
  pub words : two more ≡ Some (hex_text segment.at, digits)
  pub bytes : decode_of digits ≡ Ok segment.bytes
  pub below : segment.at < end
  pub faultless : (n : ℕ) → BreaksMemory more n → ⊥

first_of : (more : List (List ℕ)) (a b : List ℕ × List ℕ) → two more ≡ Some a → two more ≡ Some b → a.0 ≡ b.0
first_of more a b e k = ap (λ (p : List ℕ × List ℕ). p.0) (same_Some a b (sym e ∙ k))

second_of : (more : List (List ℕ)) (a b : List ℕ × List ℕ) → two more ≡ Some a → two more ≡ Some b → a.1 ≡ b.1
second_of more a b e k = ap (λ (p : List ℕ × List ℕ). p.1) (same_Some a b (sym e ∙ k))

pub memory_low : (more : List (List ℕ)) (n : ℕ) → BreaksMemory more n → 3 ≤ n
memory_low more n (memory_count e r) = omega arith
memory_low more n (no_address at digits e wrong r) = omega arith
memory_low more n (no_bytes at digits e none r) = omega arith
memory_low more n (past_end g digits e d s l r) = omega arith

next : (more : List (List ℕ)) (both : List ℕ × List ℕ) (n : ℕ) → two more ≡ Some both → BreaksMemory more n → 4 ≤ n
next more both n k (memory_count e r) = absurd (cc)
next more both n k (no_address at digits e wrong r) = omega arith
next more both n k (no_bytes at digits e none r) = omega arith
next more both n k (past_end g digits e d s l r) = omega arith

third : (more : List (List ℕ)) (both : List ℕ × List ℕ) (n : ℕ) → two more ≡ Some both → IsNumber (2 ^ 64) both.0 → BreaksMemory more n → 6 ≤ n
third more both n k is (memory_count e r) = absurd (cc)
third more both n k is (no_address at digits e wrong r) = absurd (wrong (subst (IsNumber (2 ^ 64)) (sym (first_of more (at, digits) both e k)) is))
third more both n k is (no_bytes at digits e none r) = omega arith
third more both n k is (past_end g digits e d s l r) = omega arith

-- the digits of the second word are pairs
some_bytes : (more : List (List ℕ)) (both : List ℕ × List ℕ) (at digits bytes : List ℕ) → two more ≡ Some both → decode_of both.1 ≡ Ok bytes → 0 < length bytes → two more ≡ Some (at, digits) → ((bs : List ℕ) → decode_of digits ≡ Ok bs → bs ≡ []) → ⊥
some_bytes more both at digits bytes k d some e none =
    let empty = none bytes (ap decode_of (second_of more (at, digits) both e k) ∙ d) in
    omega (arith, ap length empty)

fourth : (more : List (List ℕ)) (both : List ℕ × List ℕ) (bytes : List ℕ) (n : ℕ) → two more ≡ Some both → IsNumber (2 ^ 64) both.0 → decode_of both.1 ≡ Ok bytes → 0 < length bytes → BreaksMemory more n → 7 ≤ n
fourth more both bytes n k is d some (memory_count e r) = absurd (cc)
fourth more both bytes n k is d some (no_address at digits e wrong r) = absurd (wrong (subst (IsNumber (2 ^ 64)) (sym (first_of more (at, digits) both e k)) is))
fourth more both bytes n k is d some (no_bytes at digits e none r) = absurd (some_bytes more both at digits bytes k d some e none)
fourth more both bytes n k is d some (past_end g digits e f s l r) = omega arith

wide : (n : ℕ) → n < 2 ^ 64 → n < 2 ^ 128
wide n l = let more : 2 ^ 64 ≤ 2 ^ 128 = lit≤ tt in omega arith

same_decoded : (xs ys bytes others : List ℕ) → xs ≡ ys → decode_of xs ≡ Ok bytes → decode_of ys ≡ Ok others → length bytes ≡ length others
same_decoded xs ys bytes others e d f = let same : bytes ≡ others = (let both = sym d ∙ ap decode_of e ∙ f in cc) in ap length same

fine : (more : List (List ℕ)) (both : List ℕ × List ℕ) (at : ℕ) (bytes : List ℕ) (n : ℕ) → two more ≡ Some both → at < 2 ^ 64 → both.0 ≡ hex_text at → decode_of both.1 ≡ Ok bytes → 0 < length bytes → at + length bytes ≤ 2 ^ 64 → BreaksMemory more n → ⊥
fine more both at bytes n k small is d some fits (memory_count e r) = cc
fine more both at bytes n k small is d some fits (no_address word digits e wrong r) = wrong (at, (small, first_of more (word, digits) both e k ∙ is))
fine more both at bytes n k small is d some fits (no_bytes word digits e none r) = some_bytes more both word digits bytes k d some e none
fine more both at bytes n k small is d some fits (past_end g digits e f s l r) =
    let same = one_number g.at at (wide g.at s) (wide at small) (first_of more (hex_text g.at, digits) both e k ∙ is) in
    let size = same_decoded digits both.1 g.bytes bytes (second_of more (hex_text g.at, digits) both e k) f d in
    omega (arith, same, size)

module _ (B : ℕ → Type 0) (O : Type 0) (line : ℕ) where
  pairs_tells : {Y : Type 0} (d : Result (List ℕ) FromHexError) (f : List ℕ → Result Y SnapErr) → (((bs : List ℕ) → d ≡ Ok bs → bs ≡ []) → IsLowest B 6) → ((bytes : List ℕ) → d ≡ Ok bytes → 0 < length bytes → Tells B O line (f bytes)) → Tells B O line (pairs line d >>= f)
  pairs_tells (Ok []) f h k = (refl, h (λ bs e. cc))
  pairs_tells (Ok (b ∷ bytes)) f h k = k (b ∷ bytes) refl (omega arith)
  pairs_tells (Err x) f h k = (refl, h (λ bs e. absurd (cc)))

two_again : (more : List (List ℕ)) (both : List ℕ × List ℕ) (at : ℕ) → two more ≡ Some both → both.0 ≡ hex_text at → two more ≡ Some (hex_text at, both.1)
two_again more both at e is = e ∙ ap (λ w. Some (w, both.1)) is

segment_tells : (r : Reading) (more : List (List ℕ)) (both : List ℕ × List ℕ) (at : ℕ) (bytes : List ℕ) → two more ≡ Some both → (at < 2 ^ 64) × (both.0 ≡ hex_text at) → decode_of both.1 ≡ Ok bytes → 0 < length bytes
    → Tells (BreaksMemory more) (IsBelow (last_end r.snapshot.mem) more) r.line (segment_line r at bytes)
segment_tells r more both at bytes e is d some =
    let B = BreaksMemory more in
    let O = IsBelow (last_end r.snapshot.mem) more in
    let good : Result Reading SnapErr = Ok (record { stage = stages.Memory; line = after r.line; snapshot = record r.snapshot { mem = with_bytes r.snapshot.mem at bytes } }) in
    let over : Result Reading SnapErr = Err (faults.Overlap r.line) in
    let words = two_again more both at e is.1 in
    cond_tells B O r.line (nat_lt (2 ^ 64) (at + length bytes)) (bad r.line 7) (cond (nat_lt at (last_end r.snapshot.mem)) over good)
    (λ t. (refl, (past_end (record { at = at; bytes = bytes }) both.1 words d is.0 (ltb-true (2 ^ 64) (at + length bytes) t) refl, λ n b. fourth more both bytes n e (at, is) d some b)))
    (λ f. let fits = ltb-false (2 ^ 64) (at + length bytes) f in
    cond_tells B O r.line (nat_lt at (last_end r.snapshot.mem)) over good
    (λ t. (refl, record { segment = record { at = at; bytes = bytes }; digits = both.1; words = words; bytes = d; below = ltb-true at (last_end r.snapshot.mem) t; faultless = λ n b. fine more both at bytes n e is.0 is.1 d some fits b }))
    (λ g n b. fine more both at bytes n e is.0 is.1 d some fits b))

pub memory_tells : (r : Reading) (more : List (List ℕ)) → Tells (BreaksMemory more) (IsBelow (last_end r.snapshot.mem) more) r.line (memory_line r more)
memory_tells r more =
    let B = BreaksMemory more in
    let O = IsBelow (last_end r.snapshot.mem) more in
    or_bad_tells B O r.line 3 (two more) (λ both. or_bad r.line 4 (hex_of both.0) >>= λ at. pairs r.line (decode_of both.1) >>= λ bytes. segment_line r at bytes)
    (λ e. (memory_count e refl, memory_low more))
    (λ both e. or_bad_tells B O r.line 4 (hex_of both.0) (λ at. pairs r.line (decode_of both.1) >>= λ bytes. segment_line r at bytes)
    (λ none. (no_address both.0 both.1 e (no_hex both.0 none) refl, λ n b. next more both n e b))
    (λ at some. let is = spelling_of both.0 at some in
    pairs_tells B O r.line (decode_of both.1) (λ bytes. segment_line r at bytes)
    (λ none. (no_bytes both.0 both.1 e none refl, λ n b. third more both n e (at, is) b))
    (λ bytes d l. segment_tells r more both at bytes e is d l)))
