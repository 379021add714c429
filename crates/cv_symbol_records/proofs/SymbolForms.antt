-- The readers of symbol records are exact.
use Rattle.std.proofs.Common.{ℕ, List, Option, Some, None}
use Rattle.rv_bytes.specs.Forms.{made}
use Rattle.rv_bytes.specs.Readers.{with_value}
use Rattle.rv_bytes.specs.Numbers.{number, text}
use Rattle.rv_bytes.specs.NumberReaders.{read_number, read_text}
use Rattle.rv_bytes.proofs.Exact.{Exact, nothing_exact, made_exact}
use Rattle.rv_bytes.proofs.ByteNumbers.{number_exact}
use Rattle.rv_bytes.proofs.CheckedTexts.{text_exact}
use Rattle.cv_parts.proofs.Fields.{number_then, numeric_then, HasByte}
use Rattle.cv_parts.proofs.RecordForms.{record_exact, record_byte}
use Rattle.cv_symbol_records.specs.SymLeaves.{leaf_of}
use Rattle.cv_symbol_records.specs.Symbols.{frame_proc, block, constant, udt, datum_of, datum, proc_of, proc, local_variable, by_kind, by_leaf, contents, sym_rec, symbol}
use Rattle.cv_symbol_records.specs.SymbolReaders.{read_frame_proc, read_block, read_constant, read_udt, read_datum, read_proc, read_local, read_by_kind, read_by_leaf, read_contents, read_symbol}
use Rattle.cv_symbol_records.proofs.RangeForms.{range_reg_exact, range_frame_exact, range_subfield_exact, range_full_exact, range_rel_exact}
use Rattle.cv_symbol_records.specs.declared.leaves.SymLeaf.{SymLeaf}
use Rattle.cv_symbol_records.specs.declared.kinds.SymKind.{SymKind}

-- of a name that ends a record
named : {A : Type 0} (f : List ℕ → A) → Exact (made f text) (λ n s. with_value f (read_text n s))
named f = made_exact f text read_text text_exact

frame_proc_exact : Exact frame_proc read_frame_proc
frame_proc_exact =
    number_then 4 _ _ (λ a. number_then 4 _ _ (λ b. number_then 4 _ _ (λ c. number_then 4 _ _ (λ d. number_then 4 _ _ (λ e. number_then 2 _ _ (λ f.
    made_exact (SymKind.FrameProc a b c d e f) (number 4) (read_number 4) (number_exact 4)))))))

block_exact : Exact block read_block
block_exact =
    number_then 4 _ _ (λ parent. number_then 4 _ _ (λ end. number_then 4 _ _ (λ len. number_then 4 _ _ (λ offset. number_then 2 _ _ (λ section. named (SymKind.Block parent end len offset section))))))

datum_exact : Exact datum read_datum
datum_exact = number_then 4 _ _ (λ ty. number_then 4 _ _ (λ offset. number_then 2 _ _ (λ section. named (datum_of ty offset section))))

proc_exact : Exact proc read_proc
proc_exact =
    number_then 4 _ _ (λ parent. number_then 4 _ _ (λ end. number_then 4 _ _ (λ next. number_then 4 _ _ (λ len. number_then 4 _ _ (λ debug_start. number_then 4 _ _ (λ debug_end.
    number_then 4 _ _ (λ ty. number_then 4 _ _ (λ offset. number_then 2 _ _ (λ section. number_then 1 _ _ (λ flags.
    named (proc_of parent end next len debug_start debug_end ty offset section flags)))))))))))

by_kind_exact : (leaf : SymLeaf) (size : ℕ) → Exact (by_kind leaf size) (read_by_kind leaf size)
by_kind_exact SymLeaf.End size = nothing_exact SymKind.End
by_kind_exact SymLeaf.ProcIdEnd size = nothing_exact SymKind.ProcIdEnd
by_kind_exact SymLeaf.FrameProc size = frame_proc_exact
by_kind_exact SymLeaf.Block size = block_exact
by_kind_exact SymLeaf.Constant size = number_then 4 _ _ (λ ty. numeric_then _ _ (λ value. named (SymKind.Constant ty value)))
by_kind_exact SymLeaf.Udt size = number_then 4 _ _ (λ ty. named (SymKind.Udt ty))
by_kind_exact SymLeaf.LData size = made_exact SymKind.LData datum read_datum datum_exact
by_kind_exact SymLeaf.GData size = made_exact SymKind.GData datum read_datum datum_exact
by_kind_exact SymLeaf.LProc size = made_exact SymKind.LProc proc read_proc proc_exact
by_kind_exact SymLeaf.GProc size = made_exact SymKind.GProc proc read_proc proc_exact
by_kind_exact SymLeaf.LProcId size = made_exact SymKind.LProcId proc read_proc proc_exact
by_kind_exact SymLeaf.GProcId size = made_exact SymKind.GProcId proc read_proc proc_exact
by_kind_exact SymLeaf.Local size = number_then 4 _ _ (λ ty. number_then 2 _ _ (λ flags. named (SymKind.Local ty flags)))
by_kind_exact SymLeaf.RangeReg size = range_reg_exact size
by_kind_exact SymLeaf.RangeFrame size = range_frame_exact size
by_kind_exact SymLeaf.RangeSubfield size = range_subfield_exact size
by_kind_exact SymLeaf.RangeFrameFull size = range_full_exact
by_kind_exact SymLeaf.RangeRel size = range_rel_exact size

by_leaf_exact : (o : Option SymLeaf) (kind size : ℕ) → Exact (by_leaf o kind size) (read_by_leaf o kind size)
by_leaf_exact None kind size = nothing_exact (SymKind.Other kind)
by_leaf_exact (Some leaf) kind size = by_kind_exact leaf size

contents_exact : (kind size : ℕ) → Exact (contents kind size) (read_contents kind size)
contents_exact kind size = by_leaf_exact (leaf_of kind) kind size

pub symbol_exact : Exact symbol read_symbol
symbol_exact = record_exact sym_rec contents read_contents contents_exact

pub symbol_byte : HasByte symbol
symbol_byte = record_byte sym_rec contents
