-- Ranges that were appended.
use Rattle.std.proofs.Common.{◌≡◌, ◌<◌, ◌≤◌, ℕ, ◌+◌, ◌-◌, ◌*◌, ◌/◌, ◌^◌, ℤ, List, [], ◌∷◌, ◌++◌, length, refl, sym, ap, subst, ◌∙◌, arith, length-append}
use Rattle.byteorder.specs.Endian.{little_bytes, twos_complement}
use Rattle.byteorder.specs.Numbers.{length-bytes_low_first}
use Rattle.rv_bytes.specs.Numbers.{number}
use Rattle.cv_parts.specs.Puts.{Puts}
use Rattle.cv_parts.specs.Series.{so_many}
use Rattle.cv_parts.proofs.PutForms.{puts_number, puts_made}
use Rattle.cv_symbol_records.specs.Ranges.{signed, gap_of, gap, range_of, range}
use Rattle.cv_symbol_records.specs.declared.kinds.CvRange.{CvRange}
use Rattle.cv_symbol_records.specs.declared.kinds.CvGap.{CvGap}
use Rattle.cv_record_writer.specs.Contents.{all_bytes}
use Rattle.cv_record_writer.specs.SymbolBytes.{bits_of, signed_bytes, gap_bytes, range_bytes}
use Rattle.cv_record_writer.specs.Appended.{PutsRange}
use Rattle.cv_record_writer.proofs.Fields.{number_then}

-- a number with a sign
pub signed_puts : (z : ℤ) (bits : ℕ) (old new : List ℕ) → bits ≡ bits_of z → twos_complement 4 bits ≡ z → bits < 256 ^ 4 → new ≡ old ++ little_bytes 4 bits → Puts signed z (signed_bytes z) old new
signed_puts z bits old new b v h e =
    subst (λ y. Puts signed z (little_bytes 4 y) old new) b (subst (λ y. Puts signed y (little_bytes 4 bits) old new) v (puts_made (twos_complement 4) (number 4) bits (little_bytes 4 bits) old new (puts_number 4 bits old new h e)))

-- a gap
pub gap_puts : (start len : ℕ) (old mid new : List ℕ) → start < 256 ^ 2 → len < 256 ^ 2 → mid ≡ old ++ little_bytes 2 start → new ≡ mid ++ little_bytes 2 len → Puts gap (gap_of start len) (gap_bytes (gap_of start len)) old new
gap_puts start len old mid new a b d e = number_then 2 start _ _ (little_bytes 2 len) old mid new a d (puts_made (gap_of start) (number 2) len (little_bytes 2 len) mid new (puts_number 2 len mid new b e))

-- each gap has four bytes
gaps_long : (gs : List CvGap) → length (all_bytes gap_bytes gs) ≡ 4 * length gs
gaps_long [] = refl
gaps_long (g ∷ gs) =
    let more : length (all_bytes gap_bytes gs) ≡ 4 * length gs = gaps_long gs in
    omega (arith, more, length-append (gap_bytes g) (all_bytes gap_bytes gs), length-append (little_bytes 2 g.start) (little_bytes 2 g.len), length-bytes_low_first 0 2 g.start, length-bytes_low_first 0 2 g.len)

-- so a range has eight bytes, and those of its gaps
pub range_long : (r : CvRange) → length (range_bytes r) ≡ 8 + 4 * length r.gaps
range_long r =
    omega (
      arith,
      gaps_long r.gaps,
      length-append (little_bytes 4 r.start) (little_bytes 2 r.section ++ (little_bytes 2 r.len ++ all_bytes gap_bytes r.gaps)),
      length-append (little_bytes 2 r.section) (little_bytes 2 r.len ++ all_bytes gap_bytes r.gaps),
      length-append (little_bytes 2 r.len) (all_bytes gap_bytes r.gaps),
      length-bytes_low_first 0 4 r.start,
      length-bytes_low_first 0 2 r.section,
      length-bytes_low_first 0 2 r.len,
    )

-- the gaps that so many bytes have whole
whole_gaps : (left long count : ℕ) → long ≡ 8 + 4 * count → long ≤ left → left < long + 4 → count ≡ (left - 4 - 2 - 2) / 4
whole_gaps left long count e a b = omega (arith, e, a, b)

pub range_puts : (r : CvRange) (old one two three new : List ℕ) → r.start < 256 ^ 4 → r.section < 256 ^ 2 → r.len < 256 ^ 2 → one ≡ old ++ little_bytes 4 r.start → two ≡ one ++ little_bytes 2 r.section → three ≡ two ++ little_bytes 2 r.len
    → Puts (so_many gap (length r.gaps)) r.gaps (all_bytes gap_bytes r.gaps) three new → PutsRange r old new
range_puts r old one two three new a b c d e f p =
    record { appended = (in_bytes (length (range_bytes r)) (omega arith) (omega arith)).appended; spells = λ left h g. (in_bytes left h g).spells }
  where
    in_bytes : (left : ℕ) → length (range_bytes r) ≤ left → left < length (range_bytes r) + 4 → Puts (range left) r (range_bytes r) old new
    in_bytes left h g =
        number_then 4 r.start _ _ _ old one new a d (number_then 2 r.section _ _ _ one two new b e (number_then 2 r.len _ _ _ two three new c f
        (puts_made (range_of r.start r.section r.len) (so_many gap ((left - 4 - 2 - 2) / 4)) r.gaps (all_bytes gap_bytes r.gaps) three new
        (subst (λ z. Puts (so_many gap z) r.gaps (all_bytes gap_bytes r.gaps) three new) (whole_gaps left (length (range_bytes r)) (length r.gaps) (range_long r) h g) p))))

-- where so many bytes are left
pub range_in : (r : CvRange) (old new : List ℕ) (left : ℕ) → PutsRange r old new → length (range_bytes r) ≤ left → left < length (range_bytes r) + 4 → Puts (range left) r (range_bytes r) old new
range_in r old new left p h g = record { appended = p.appended; spells = p.spells left h g }
