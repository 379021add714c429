-- The bytes of the fields of symbol records, each by the record's name.
use Rattle.std.specs.Prelude.{ℕ, suc, ◌-◌, ◌^◌, ℤ, pos, negsuc, List, [], ◌++◌}
use Rattle.byteorder.specs.Endian.{little_bytes}
use Rattle.rv_bytes.specs.Leaves.{numeric_bytes}
use Rattle.cv_parts.specs.Puts.{name_bytes}
use Rattle.cv_symbol_records.specs.SymLeaves.{s_end, s_frameproc, s_block32, s_constant, s_udt, s_ldata32, s_gdata32, s_lproc32, s_gproc32, s_local, s_defrange_register, s_defrange_framepointer_rel, s_defrange_subfield_register, s_defrange_framepointer_rel_full_scope, s_defrange_register_rel, s_lproc32_id, s_gproc32_id, s_proc_id_end}
use Rattle.cv_symbol_records.specs.declared.kinds.SymKind.{SymKind}
use Rattle.cv_symbol_records.specs.declared.kinds.Datum.{Datum}
use Rattle.cv_symbol_records.specs.declared.kinds.Proc.{Proc}
use Rattle.cv_symbol_records.specs.declared.kinds.CvRange.{CvRange}
use Rattle.cv_symbol_records.specs.declared.kinds.CvGap.{CvGap}
use Rattle.cv_record_writer.specs.Contents.{all_bytes}

-- the number of a record's kind
abbrev pub number_of : SymKind → ℕ
number_of SymKind.End = s_end
number_of SymKind.ProcIdEnd = s_proc_id_end
number_of (SymKind.FrameProc a b c d e f flags) = s_frameproc
number_of (SymKind.Block parent end len offset section name) = s_block32
number_of (SymKind.Constant ty value name) = s_constant
number_of (SymKind.Udt ty name) = s_udt
number_of (SymKind.LData variable) = s_ldata32
number_of (SymKind.GData variable) = s_gdata32
number_of (SymKind.LProc procedure) = s_lproc32
number_of (SymKind.GProc procedure) = s_gproc32
number_of (SymKind.LProcId procedure) = s_lproc32_id
number_of (SymKind.GProcId procedure) = s_gproc32_id
number_of (SymKind.Local ty flags name) = s_local
number_of (SymKind.RangeReg reg attributes range) = s_defrange_register
number_of (SymKind.RangeFrame offset range) = s_defrange_framepointer_rel
number_of (SymKind.RangeSubfield reg attributes at range) = s_defrange_subfield_register
number_of (SymKind.RangeFrameFull offset) = s_defrange_framepointer_rel_full_scope
number_of (SymKind.RangeRel reg flags offset range) = s_defrange_register_rel
number_of (SymKind.Other kind) = kind

-- S_FRAMEPROC
abbrev pub frame_proc_bytes : ℕ → ℕ → ℕ → ℕ → ℕ → ℕ → ℕ → List ℕ
frame_proc_bytes a b c d e f flags =
    little_bytes 4 a ++ (little_bytes 4 b ++ (little_bytes 4 c ++ (little_bytes 4 d ++ (little_bytes 4 e ++ (little_bytes 2 f ++ little_bytes 4 flags)))))

-- S_BLOCK32
abbrev pub block_bytes : ℕ → ℕ → ℕ → ℕ → ℕ → List ℕ → List ℕ
block_bytes parent end len offset section name =
    little_bytes 4 parent ++ (little_bytes 4 end ++ (little_bytes 4 len ++ (little_bytes 4 offset ++ (little_bytes 2 section ++ name_bytes name))))

-- S_CONSTANT
abbrev pub constant_bytes : ℕ → ℤ → List ℕ → List ℕ
constant_bytes ty value name = little_bytes 4 ty ++ (numeric_bytes value ++ name_bytes name)

-- S_UDT
abbrev pub udt_bytes : ℕ → List ℕ → List ℕ
udt_bytes ty name = little_bytes 4 ty ++ name_bytes name

-- S_LDATA32 and S_GDATA32
abbrev pub datum_bytes : Datum → List ℕ
datum_bytes d = little_bytes 4 d.ty ++ (little_bytes 4 d.offset ++ (little_bytes 2 d.section ++ name_bytes d.name))

-- S_LPROC32, S_GPROC32, S_LPROC32_ID and S_GPROC32_ID
abbrev pub proc_bytes : Proc → List ℕ
proc_bytes p =
    little_bytes 4 p.parent ++ (little_bytes 4 p.end ++ (little_bytes 4 p.next ++ (little_bytes 4 p.len ++ (little_bytes 4 p.debug_start ++ (little_bytes 4 p.debug_end
    ++ (little_bytes 4 p.ty ++ (little_bytes 4 p.offset ++ (little_bytes 2 p.section ++ (little_bytes 1 p.flags ++ name_bytes p.name)))))))))

-- S_LOCAL
abbrev pub local_bytes : ℕ → ℕ → List ℕ → List ℕ
local_bytes ty flags name = little_bytes 4 ty ++ (little_bytes 2 flags ++ name_bytes name)

-- the two's complement of a number in 32 bits
abbrev pub bits_of : ℤ → ℕ
bits_of (pos n) = n
bits_of (negsuc n) = 2 ^ 32 - suc n

-- a number of four bytes with a sign
abbrev pub signed_bytes : ℤ → List ℕ
signed_bytes z = little_bytes 4 (bits_of z)

-- a gap
abbrev pub gap_bytes : CvGap → List ℕ
gap_bytes g = little_bytes 2 g.start ++ little_bytes 2 g.len

-- a range, and its gaps
abbrev pub range_bytes : CvRange → List ℕ
range_bytes r = little_bytes 4 r.start ++ (little_bytes 2 r.section ++ (little_bytes 2 r.len ++ all_bytes gap_bytes r.gaps))

-- S_DEFRANGE_REGISTER
abbrev pub range_reg_bytes : ℕ → ℕ → CvRange → List ℕ
range_reg_bytes reg attributes range = little_bytes 2 reg ++ (little_bytes 2 attributes ++ range_bytes range)

-- S_DEFRANGE_FRAMEPOINTER_REL
abbrev pub range_frame_bytes : ℤ → CvRange → List ℕ
range_frame_bytes offset range = signed_bytes offset ++ range_bytes range

-- S_DEFRANGE_SUBFIELD_REGISTER
abbrev pub range_subfield_bytes : ℕ → ℕ → ℕ → CvRange → List ℕ
range_subfield_bytes reg attributes at range = little_bytes 2 reg ++ (little_bytes 2 attributes ++ (little_bytes 4 at ++ range_bytes range))

-- S_DEFRANGE_REGISTER_REL
abbrev pub range_rel_bytes : ℕ → ℕ → ℤ → CvRange → List ℕ
range_rel_bytes reg flags offset range = little_bytes 2 reg ++ (little_bytes 2 flags ++ (signed_bytes offset ++ range_bytes range))

-- the fields of a record by its kind; those of other kinds aren't known
abbrev pub fields_bytes : SymKind → List ℕ
fields_bytes SymKind.End = []
fields_bytes SymKind.ProcIdEnd = []
fields_bytes (SymKind.FrameProc a b c d e f flags) = frame_proc_bytes a b c d e f flags
fields_bytes (SymKind.Block parent end len offset section name) = block_bytes parent end len offset section name
fields_bytes (SymKind.Constant ty value name) = constant_bytes ty value name
fields_bytes (SymKind.Udt ty name) = udt_bytes ty name
fields_bytes (SymKind.LData variable) = datum_bytes variable
fields_bytes (SymKind.GData variable) = datum_bytes variable
fields_bytes (SymKind.LProc procedure) = proc_bytes procedure
fields_bytes (SymKind.GProc procedure) = proc_bytes procedure
fields_bytes (SymKind.LProcId procedure) = proc_bytes procedure
fields_bytes (SymKind.GProcId procedure) = proc_bytes procedure
fields_bytes (SymKind.Local ty flags name) = local_bytes ty flags name
fields_bytes (SymKind.RangeReg reg attributes range) = range_reg_bytes reg attributes range
fields_bytes (SymKind.RangeFrame offset range) = range_frame_bytes offset range
fields_bytes (SymKind.RangeSubfield reg attributes at range) = range_subfield_bytes reg attributes at range
fields_bytes (SymKind.RangeFrameFull offset) = signed_bytes offset
fields_bytes (SymKind.RangeRel reg flags offset range) = range_rel_bytes reg flags offset range
fields_bytes (SymKind.Other kind) = []
