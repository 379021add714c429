-- The readers of ranges are exact.
use Rattle.std.proofs.Common.{◌≡◌, ℕ, ◌-◌, ◌/◌, ℤ, List, length, lit<, refl, sym, ap, ◌∙◌}
use Rattle.byteorder.specs.Endian.{twos_complement}
use Rattle.rv_bytes.specs.Forms.{follow, made}
use Rattle.rv_bytes.specs.Readers.{Res, got, bad, with_value}
use Rattle.rv_bytes.specs.Numbers.{number}
use Rattle.rv_bytes.specs.NumberReaders.{read_number}
use Rattle.rv_bytes.proofs.Exact.{Exact, follow_exact, made_exact}
use Rattle.rv_bytes.proofs.ByteNumbers.{number_exact}
use Rattle.cv_parts.specs.Series.{so_many}
use Rattle.cv_parts.specs.RecordReaders.{read_so_many}
use Rattle.cv_parts.proofs.Fields.{number_then, number_byte, front_byte, HasByte}
use Rattle.cv_parts.proofs.Series.{so_many_exact}
use Rattle.cv_parts.proofs.Contents.{number_left}
use Rattle.cv_symbol_records.specs.Ranges.{signed, gap_of, gap, range_of, range, range_reg, range_frame, range_subfield, range_full, range_rel}
use Rattle.cv_symbol_records.specs.RangeReaders.{read_signed, read_gap, read_range, read_range_reg, read_range_frame, read_range_subfield, read_range_full, read_range_rel}
use Rattle.cv_symbol_records.specs.declared.kinds.SymKind.{SymKind}

pub signed_exact : Exact signed read_signed
signed_exact = made_exact (twos_complement 4) (number 4) (read_number 4) (number_exact 4)

-- four bytes fewer are left after a number with a sign
pub signed_left : (n : ℕ) (s : List ℕ) (z : ℤ) (m : ℕ) (k : List ℕ) → read_signed n s ≡ got z m k → length k ≡ length s - 4
signed_left n s z m k h = by_cases (read_number 4 n s) refl h
  where
    by_cases : (x : Res ℕ ℕ) → read_number 4 n s ≡ x → with_value (twos_complement 4) x ≡ got z m k → length k ≡ length s - 4
    by_cases (got v j l) e h = let p : l ≡ k = cc in ap length (sym p) ∙ number_left 4 n s v j l e
    by_cases (bad r j) e h = absurd (cc)

pub gap_exact : Exact gap read_gap
gap_exact = number_then 2 _ _ (λ start. made_exact (gap_of start) (number 2) (read_number 2) (number_exact 2))

pub gap_byte : HasByte gap
gap_byte n v t h = front_byte _ _ n t (λ x y. number_byte 2 (lit< tt) n h.0 x y) h.1

range_exact : (left : ℕ) → Exact (range left) (read_range left)
range_exact left = number_then 4 _ _ (λ start. number_then 2 _ _ (λ section. number_then 2 _ _ (λ len.
    made_exact (range_of start section len) (so_many gap ((left - 4 - 2 - 2) / 4)) (read_so_many read_gap ((left - 4 - 2 - 2) / 4)) (so_many_exact gap read_gap gap_byte gap_exact ((left - 4 - 2 - 2) / 4)))))

pub range_reg_exact : (left : ℕ) → Exact (range_reg left) (read_range_reg left)
range_reg_exact left = number_then 2 _ _ (λ reg. number_then 2 _ _ (λ attributes. made_exact (SymKind.RangeReg reg attributes) (range (left - 2 - 2)) (read_range (left - 2 - 2)) (range_exact (left - 2 - 2))))

pub range_frame_exact : (left : ℕ) → Exact (range_frame left) (read_range_frame left)
range_frame_exact left = follow_exact signed _ read_signed _ signed_exact (λ offset. made_exact (SymKind.RangeFrame offset) (range (left - 4)) (read_range (left - 4)) (range_exact (left - 4)))

pub range_subfield_exact : (left : ℕ) → Exact (range_subfield left) (read_range_subfield left)
range_subfield_exact left =
    number_then 2 _ _ (λ reg. number_then 2 _ _ (λ attributes. number_then 4 _ _ (λ at.
    made_exact (SymKind.RangeSubfield reg attributes at) (range (left - 2 - 2 - 4)) (read_range (left - 2 - 2 - 4)) (range_exact (left - 2 - 2 - 4)))))

pub range_full_exact : Exact range_full read_range_full
range_full_exact = made_exact SymKind.RangeFrameFull signed read_signed signed_exact

pub range_rel_exact : (left : ℕ) → Exact (range_rel left) (read_range_rel left)
range_rel_exact left =
    number_then 2 _ _ (λ reg. number_then 2 _ _ (λ flags. follow_exact signed _ read_signed _ signed_exact (λ offset.
    made_exact (SymKind.RangeRel reg flags offset) (range (left - 2 - 2 - 4)) (read_range (left - 2 - 2 - 4)) (range_exact (left - 2 - 2 - 4)))))
