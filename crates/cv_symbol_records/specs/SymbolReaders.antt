-- The readers of symbol records, for proofs.
use Rattle.std.specs.Prelude.{ℕ, Option, Some, None}
use Rattle.rv_bytes.specs.Readers.{got, Reader, and_then, with_value}
use Rattle.rv_bytes.specs.NumberReaders.{read_number, read_text, read_numeric}
use Rattle.cv_parts.specs.RecordReaders.{read_a_record}
use Rattle.cv_symbol_records.specs.SymLeaves.{leaf_of}
use Rattle.cv_symbol_records.specs.RangeReaders.{read_range_reg, read_range_frame, read_range_subfield, read_range_full, read_range_rel}
use Rattle.cv_symbol_records.specs.Symbols.{datum_of, proc_of, sym_rec}
use Rattle.cv_symbol_records.specs.declared.leaves.SymLeaf.{SymLeaf}
use Rattle.cv_symbol_records.specs.declared.kinds.SymRec.{SymRec}
use Rattle.cv_symbol_records.specs.declared.kinds.SymKind.{SymKind}
use Rattle.cv_symbol_records.specs.declared.kinds.Datum.{Datum}
use Rattle.cv_symbol_records.specs.declared.kinds.Proc.{Proc}

abbrev pub read_frame_proc : Reader ℕ SymKind
read_frame_proc n s =
    and_then (read_number 4 n s) (λ a n s. and_then (read_number 4 n s) (λ b n s. and_then (read_number 4 n s) (λ c n s. and_then (read_number 4 n s) (λ d n s.
    and_then (read_number 4 n s) (λ e n s. and_then (read_number 2 n s) (λ f n s. with_value (SymKind.FrameProc a b c d e f) (read_number 4 n s)))))))

abbrev pub read_block : Reader ℕ SymKind
read_block n s =
    and_then (read_number 4 n s) (λ parent n s. and_then (read_number 4 n s) (λ end n s. and_then (read_number 4 n s) (λ len n s. and_then (read_number 4 n s) (λ offset n s.
    and_then (read_number 2 n s) (λ section n s. with_value (SymKind.Block parent end len offset section) (read_text n s))))))

abbrev pub read_constant : Reader ℕ SymKind
read_constant n s = and_then (read_number 4 n s) (λ ty n s. and_then (read_numeric n s) (λ value n s. with_value (SymKind.Constant ty value) (read_text n s)))

abbrev pub read_udt : Reader ℕ SymKind
read_udt n s = and_then (read_number 4 n s) (λ ty n s. with_value (SymKind.Udt ty) (read_text n s))

abbrev pub read_datum : Reader ℕ Datum
read_datum n s =
    and_then (read_number 4 n s) (λ ty n s. and_then (read_number 4 n s) (λ offset n s. and_then (read_number 2 n s)
    (λ section n s. with_value (datum_of ty offset section) (read_text n s))))

abbrev pub read_proc : Reader ℕ Proc
read_proc n s =
    and_then (read_number 4 n s) (λ parent n s. and_then (read_number 4 n s) (λ end n s. and_then (read_number 4 n s) (λ next n s. and_then (read_number 4 n s) (λ len n s.
    and_then (read_number 4 n s) (λ debug_start n s. and_then (read_number 4 n s) (λ debug_end n s. and_then (read_number 4 n s) (λ ty n s. and_then (read_number 4 n s) (λ offset n s.
    and_then (read_number 2 n s) (λ section n s. and_then (read_number 1 n s) (λ flags n s.
    with_value (proc_of parent end next len debug_start debug_end ty offset section flags) (read_text n s)))))))))))

abbrev pub read_local : Reader ℕ SymKind
read_local n s = and_then (read_number 4 n s) (λ ty n s. and_then (read_number 2 n s) (λ flags n s. with_value (SymKind.Local ty flags) (read_text n s)))

-- the reader of `by_kind`
abbrev pub read_by_kind : SymLeaf → ℕ → Reader ℕ SymKind
read_by_kind SymLeaf.End size n s = got SymKind.End n s
read_by_kind SymLeaf.ProcIdEnd size n s = got SymKind.ProcIdEnd n s
read_by_kind SymLeaf.FrameProc size n s = read_frame_proc n s
read_by_kind SymLeaf.Block size n s = read_block n s
read_by_kind SymLeaf.Constant size n s = read_constant n s
read_by_kind SymLeaf.Udt size n s = read_udt n s
read_by_kind SymLeaf.LData size n s = with_value SymKind.LData (read_datum n s)
read_by_kind SymLeaf.GData size n s = with_value SymKind.GData (read_datum n s)
read_by_kind SymLeaf.LProc size n s = with_value SymKind.LProc (read_proc n s)
read_by_kind SymLeaf.GProc size n s = with_value SymKind.GProc (read_proc n s)
read_by_kind SymLeaf.LProcId size n s = with_value SymKind.LProcId (read_proc n s)
read_by_kind SymLeaf.GProcId size n s = with_value SymKind.GProcId (read_proc n s)
read_by_kind SymLeaf.Local size n s = read_local n s
read_by_kind SymLeaf.RangeReg size n s = read_range_reg size n s
read_by_kind SymLeaf.RangeFrame size n s = read_range_frame size n s
read_by_kind SymLeaf.RangeSubfield size n s = read_range_subfield size n s
read_by_kind SymLeaf.RangeFrameFull size n s = read_range_full n s
read_by_kind SymLeaf.RangeRel size n s = read_range_rel size n s

-- the reader of `by_leaf`
abbrev pub read_by_leaf : Option SymLeaf → ℕ → ℕ → Reader ℕ SymKind
read_by_leaf None kind size n s = got (SymKind.Other kind) n s
read_by_leaf (Some leaf) kind size n s = read_by_kind leaf size n s

-- the reader of `contents`
abbrev pub read_contents : ℕ → ℕ → Reader ℕ SymKind
read_contents kind size n s = read_by_leaf (leaf_of kind) kind size n s

-- the reader of `symbol`
abbrev pub read_symbol : Reader ℕ SymRec
read_symbol n s = read_a_record sym_rec read_contents n s
