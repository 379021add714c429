-- The contents of symbol records, field by field, each by the record's name.
use Rattle.std.specs.Prelude.{ℕ, ℤ, List, Option, Some, None}
use Rattle.rv_bytes.specs.Forms.{Form, nothing, follow, made}
use Rattle.rv_bytes.specs.Numbers.{number, text}
use Rattle.rv_bytes.specs.Leaves.{numeric}
use Rattle.cv_parts.specs.Records.{a_record}
use Rattle.cv_symbol_records.specs.SymLeaves.{leaf_of}
use Rattle.cv_symbol_records.specs.Ranges.{range_reg, range_frame, range_subfield, range_full, range_rel}
use Rattle.cv_symbol_records.specs.declared.leaves.SymLeaf.{SymLeaf}
use Rattle.cv_symbol_records.specs.declared.kinds.SymRec.{SymRec}
use Rattle.cv_symbol_records.specs.declared.kinds.SymKind.{SymKind}
use Rattle.cv_symbol_records.specs.declared.kinds.Datum.{Datum}
use Rattle.cv_symbol_records.specs.declared.kinds.Proc.{Proc}

-- S_FRAMEPROC
abbrev pub frame_proc : Form ℕ SymKind
frame_proc =
    follow (number 4) (λ a. follow (number 4) (λ b. follow (number 4) (λ c. follow (number 4) (λ d. follow (number 4) (λ e. follow (number 2) (λ f.
    made (SymKind.FrameProc a b c d e f) (number 4)))))))

-- S_BLOCK32
abbrev pub block : Form ℕ SymKind
block =
    follow (number 4) (λ parent. follow (number 4) (λ end. follow (number 4) (λ len. follow (number 4) (λ offset. follow (number 2) (λ section.
    made (SymKind.Block parent end len offset section) text)))))

-- S_CONSTANT
abbrev pub constant : Form ℕ SymKind
constant = follow (number 4) (λ ty. follow numeric (λ value. made (SymKind.Constant ty value) text))

-- S_UDT
abbrev pub udt : Form ℕ SymKind
udt = follow (number 4) (λ ty. made (SymKind.Udt ty) text)

-- a static variable of these fields
abbrev pub datum_of : ℕ → ℕ → ℕ → List ℕ → Datum
datum_of ty offset section name = record { ty = ty; offset = offset; section = section; name = name }

-- S_LDATA32 and S_GDATA32
abbrev pub datum : Form ℕ Datum
datum = follow (number 4) (λ ty. follow (number 4) (λ offset. follow (number 2) (λ section. made (datum_of ty offset section) text)))

-- a procedure of these fields
abbrev pub proc_of : ℕ → ℕ → ℕ → ℕ → ℕ → ℕ → ℕ → ℕ → ℕ → ℕ → List ℕ → Proc
proc_of parent end next len debug_start debug_end ty offset section flags name = record {
  parent = parent;
  end = end;
  next = next;
  len = len;
  debug_start = debug_start;
  debug_end = debug_end;
  ty = ty;
  offset = offset;
  section = section;
  flags = flags;
  name = name;
}

-- S_LPROC32, S_GPROC32, S_LPROC32_ID and S_GPROC32_ID
abbrev pub proc : Form ℕ Proc
proc =
    follow (number 4) (λ parent. follow (number 4) (λ end. follow (number 4) (λ next. follow (number 4) (λ len. follow (number 4) (λ debug_start. follow (number 4) (λ debug_end.
    follow (number 4) (λ ty. follow (number 4) (λ offset. follow (number 2) (λ section. follow (number 1) (λ flags.
    made (proc_of parent end next len debug_start debug_end ty offset section flags) text))))))))))

-- S_LOCAL
abbrev pub local_variable : Form ℕ SymKind
local_variable = follow (number 4) (λ ty. follow (number 2) (λ flags. made (SymKind.Local ty flags) text))

-- the contents of a record by its kind, of so many bytes
abbrev pub by_kind : SymLeaf → ℕ → Form ℕ SymKind
by_kind SymLeaf.End size = nothing SymKind.End
by_kind SymLeaf.ProcIdEnd size = nothing SymKind.ProcIdEnd
by_kind SymLeaf.FrameProc size = frame_proc
by_kind SymLeaf.Block size = block
by_kind SymLeaf.Constant size = constant
by_kind SymLeaf.Udt size = udt
by_kind SymLeaf.LData size = made SymKind.LData datum
by_kind SymLeaf.GData size = made SymKind.GData datum
by_kind SymLeaf.LProc size = made SymKind.LProc proc
by_kind SymLeaf.GProc size = made SymKind.GProc proc
by_kind SymLeaf.LProcId size = made SymKind.LProcId proc
by_kind SymLeaf.GProcId size = made SymKind.GProcId proc
by_kind SymLeaf.Local size = local_variable
by_kind SymLeaf.RangeReg size = range_reg size
by_kind SymLeaf.RangeFrame size = range_frame size
by_kind SymLeaf.RangeSubfield size = range_subfield size
by_kind SymLeaf.RangeFrameFull size = range_full
by_kind SymLeaf.RangeRel size = range_rel size

-- a record of another kind is passed over, and has the kind's number
abbrev pub by_leaf : Option SymLeaf → ℕ → ℕ → Form ℕ SymKind
by_leaf None kind size = nothing (SymKind.Other kind)
by_leaf (Some leaf) kind size = by_kind leaf size

-- what follows a kind, in so many bytes
abbrev pub contents : ℕ → ℕ → Form ℕ SymKind
contents kind size = by_leaf (leaf_of kind) kind size

-- the record that begins at this place
abbrev pub sym_rec : ℕ → SymKind → SymRec
sym_rec place kind = record { offset = place; kind = kind }

-- a symbol record
abbrev pub symbol : Form ℕ SymRec
symbol = a_record sym_rec contents
