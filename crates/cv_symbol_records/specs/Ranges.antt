-- The ranges of S_DEFRANGE symbols, each form told how many bytes its record has left.
use Rattle.std.specs.Prelude.{ℕ, ◌-◌, ◌/◌, ℤ, List}
use Rattle.byteorder.specs.Endian.{twos_complement}
use Rattle.rv_bytes.specs.Forms.{Form, follow, made}
use Rattle.rv_bytes.specs.Numbers.{number}
use Rattle.cv_parts.specs.Series.{so_many}
use Rattle.cv_symbol_records.specs.declared.kinds.SymKind.{SymKind}
use Rattle.cv_symbol_records.specs.declared.kinds.CvRange.{CvRange}
use Rattle.cv_symbol_records.specs.declared.kinds.CvGap.{CvGap}

-- a number of four bytes with a sign
abbrev pub signed : Form ℕ ℤ
signed = made (twos_complement 4) (number 4)

-- a gap of this start and length
abbrev pub gap_of : ℕ → ℕ → CvGap
gap_of start len = record { start = start; len = len }

abbrev pub gap : Form ℕ CvGap
gap = follow (number 2) (λ start. made (gap_of start) (number 2))

-- a range of this start, section, length and these gaps
abbrev pub range_of : ℕ → ℕ → ℕ → List CvGap → CvRange
range_of start section len gaps = record { start = start; section = section; len = len; gaps = gaps }

-- a range, and as many gaps as the bytes after its first eight have whole
abbrev pub range : ℕ → Form ℕ CvRange
range left = follow (number 4) (λ start. follow (number 2) (λ section. follow (number 2) (λ len. made (range_of start section len) (so_many gap ((left - 4 - 2 - 2) / 4)))))

-- S_DEFRANGE_REGISTER
abbrev pub range_reg : ℕ → Form ℕ SymKind
range_reg left = follow (number 2) (λ reg. follow (number 2) (λ attributes. made (SymKind.RangeReg reg attributes) (range (left - 2 - 2))))

-- S_DEFRANGE_FRAMEPOINTER_REL
abbrev pub range_frame : ℕ → Form ℕ SymKind
range_frame left = follow signed (λ offset. made (SymKind.RangeFrame offset) (range (left - 4)))

-- S_DEFRANGE_SUBFIELD_REGISTER
abbrev pub range_subfield : ℕ → Form ℕ SymKind
range_subfield left = follow (number 2) (λ reg. follow (number 2) (λ attributes. follow (number 4) (λ at. made (SymKind.RangeSubfield reg attributes at) (range (left - 2 - 2 - 4)))))

-- S_DEFRANGE_FRAMEPOINTER_REL_FULL_SCOPE
abbrev pub range_full : Form ℕ SymKind
range_full = made SymKind.RangeFrameFull signed

-- S_DEFRANGE_REGISTER_REL
abbrev pub range_rel : ℕ → Form ℕ SymKind
range_rel left = follow (number 2) (λ reg. follow (number 2) (λ flags. follow signed (λ offset. made (SymKind.RangeRel reg flags offset) (range (left - 2 - 2 - 4)))))
