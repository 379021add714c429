-- The readers of ranges, for proofs.
use Rattle.std.specs.Prelude.{ℕ, ◌-◌, ◌/◌, ℤ, List}
use Rattle.byteorder.specs.Endian.{twos_complement}
use Rattle.rv_bytes.specs.Readers.{Reader, and_then, with_value}
use Rattle.rv_bytes.specs.NumberReaders.{read_number}
use Rattle.cv_parts.specs.RecordReaders.{read_so_many}
use Rattle.cv_symbol_records.specs.Ranges.{gap_of, range_of}
use Rattle.cv_symbol_records.specs.declared.kinds.SymKind.{SymKind}
use Rattle.cv_symbol_records.specs.declared.kinds.CvRange.{CvRange}
use Rattle.cv_symbol_records.specs.declared.kinds.CvGap.{CvGap}

abbrev pub read_signed : Reader ℕ ℤ
read_signed n s = with_value (twos_complement 4) (read_number 4 n s)

abbrev pub read_gap : Reader ℕ CvGap
read_gap n s = and_then (read_number 2 n s) (λ start m k. with_value (gap_of start) (read_number 2 m k))

abbrev pub read_range : ℕ → Reader ℕ CvRange
read_range left n s =
    and_then (read_number 4 n s) (λ start n s. and_then (read_number 2 n s) (λ section n s. and_then (read_number 2 n s)
    (λ len n s. with_value (range_of start section len) (read_so_many read_gap ((left - 4 - 2 - 2) / 4) n s))))

abbrev pub read_range_reg : ℕ → Reader ℕ SymKind
read_range_reg left n s = and_then (read_number 2 n s) (λ reg n s. and_then (read_number 2 n s) (λ attributes n s. with_value (SymKind.RangeReg reg attributes) (read_range (left - 2 - 2) n s)))

abbrev pub read_range_frame : ℕ → Reader ℕ SymKind
read_range_frame left n s = and_then (read_signed n s) (λ offset n s. with_value (SymKind.RangeFrame offset) (read_range (left - 4) n s))

abbrev pub read_range_subfield : ℕ → Reader ℕ SymKind
read_range_subfield left n s =
    and_then (read_number 2 n s) (λ reg n s. and_then (read_number 2 n s) (λ attributes n s. and_then (read_number 4 n s)
    (λ at n s. with_value (SymKind.RangeSubfield reg attributes at) (read_range (left - 2 - 2 - 4) n s))))

abbrev pub read_range_full : Reader ℕ SymKind
read_range_full n s = with_value SymKind.RangeFrameFull (read_signed n s)

abbrev pub read_range_rel : ℕ → Reader ℕ SymKind
read_range_rel left n s =
    and_then (read_number 2 n s) (λ reg n s. and_then (read_number 2 n s) (λ flags n s. and_then (read_signed n s)
    (λ offset n s. with_value (SymKind.RangeRel reg flags offset) (read_range (left - 2 - 2 - 4) n s))))
