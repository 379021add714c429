-- The kinds of symbol records by their numbers, named as CodeView names them.
use Rattle.std.specs.Prelude.{ℕ, ◌==◌, if◌then◌else◌, Option, Some, None}
use Rattle.cv_symbol_records.specs.declared.leaves.SymLeaf.{SymLeaf}

abbrev pub s_end : ℕ
s_end = 0x0006

abbrev pub s_frameproc : ℕ
s_frameproc = 0x1012

abbrev pub s_block32 : ℕ
s_block32 = 0x1103

abbrev pub s_constant : ℕ
s_constant = 0x1107

abbrev pub s_udt : ℕ
s_udt = 0x1108

abbrev pub s_ldata32 : ℕ
s_ldata32 = 0x110c

abbrev pub s_gdata32 : ℕ
s_gdata32 = 0x110d

abbrev pub s_lproc32 : ℕ
s_lproc32 = 0x110f

abbrev pub s_gproc32 : ℕ
s_gproc32 = 0x1110

abbrev pub s_local : ℕ
s_local = 0x113e

abbrev pub s_defrange_register : ℕ
s_defrange_register = 0x1141

abbrev pub s_defrange_framepointer_rel : ℕ
s_defrange_framepointer_rel = 0x1142

abbrev pub s_defrange_subfield_register : ℕ
s_defrange_subfield_register = 0x1143

abbrev pub s_defrange_framepointer_rel_full_scope : ℕ
s_defrange_framepointer_rel_full_scope = 0x1144

abbrev pub s_defrange_register_rel : ℕ
s_defrange_register_rel = 0x1145

abbrev pub s_lproc32_id : ℕ
s_lproc32_id = 0x1146

abbrev pub s_gproc32_id : ℕ
s_gproc32_id = 0x1147

abbrev pub s_proc_id_end : ℕ
s_proc_id_end = 0x114f

-- the kinds whose contents are read; None for a record that is passed over
unfoldable pub leaf_of : ℕ → Option SymLeaf
leaf_of kind =
    if kind == s_end then Some SymLeaf.End
    else if kind == s_frameproc then Some SymLeaf.FrameProc
    else if kind == s_block32 then Some SymLeaf.Block
    else if kind == s_constant then Some SymLeaf.Constant
    else if kind == s_udt then Some SymLeaf.Udt
    else if kind == s_ldata32 then Some SymLeaf.LData
    else if kind == s_gdata32 then Some SymLeaf.GData
    else if kind == s_lproc32 then Some SymLeaf.LProc
    else if kind == s_gproc32 then Some SymLeaf.GProc
    else if kind == s_local then Some SymLeaf.Local
    else if kind == s_defrange_register then Some SymLeaf.RangeReg
    else if kind == s_defrange_framepointer_rel then Some SymLeaf.RangeFrame
    else if kind == s_defrange_subfield_register then Some SymLeaf.RangeSubfield
    else if kind == s_defrange_framepointer_rel_full_scope then Some SymLeaf.RangeFrameFull
    else if kind == s_defrange_register_rel then Some SymLeaf.RangeRel
    else if kind == s_lproc32_id then Some SymLeaf.LProcId
    else if kind == s_gproc32_id then Some SymLeaf.GProcId
    else if kind == s_proc_id_end then Some SymLeaf.ProcIdEnd
    else None
