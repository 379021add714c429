-- The fields of symbol records that were appended, by the record's kind.
use Rattle.std.proofs.Common.{◌≡◌, ◌<◌, ◌≤◌, ℕ, ◌+◌, ◌-◌, ◌^◌, ℤ, List, [], ◌∷◌, ◌++◌, length, take, refl, sym, ap, subst, ◌∙◌, arith, append-nil, append_assoc, length-append}
use Rattle.std.proofs.lemmas.List.{length-take}
use Rattle.byteorder.specs.Endian.{little_bytes}
use Rattle.byteorder.specs.Numbers.{length-bytes_low_first}
use Rattle.rv_bytes.specs.Forms.{Form}
use Rattle.rv_bytes.specs.Writers.{SpellsEverywhere}
use Rattle.cv_parts.specs.Puts.{Puts, pad_size}
use Rattle.cv_parts.proofs.PutForms.{puts_made, puts_then}
use Rattle.cv_symbol_records.specs.SymLeaves.{leaf_of}
use Rattle.cv_symbol_records.specs.Ranges.{signed, range, range_reg, range_frame, range_subfield, range_rel}
use Rattle.cv_symbol_records.specs.Symbols.{frame_proc, block, constant, udt, datum, proc, local_variable, contents, sym_rec}
use Rattle.cv_symbol_records.specs.declared.kinds.SymKind.{SymKind}
use Rattle.cv_symbol_records.specs.declared.kinds.Datum.{Datum}
use Rattle.cv_symbol_records.specs.declared.kinds.Proc.{Proc}
use Rattle.cv_symbol_records.specs.declared.kinds.CvRange.{CvRange}
use Rattle.cv_record_writer.specs.Contents.{zeros, padded, record_bytes}
use Rattle.cv_record_writer.specs.SymbolBytes.{number_of, bits_of, datum_bytes, proc_bytes, signed_bytes, range_bytes, range_reg_bytes, range_frame_bytes, range_subfield_bytes, range_rel_bytes, fields_bytes}
use Rattle.cv_record_writer.specs.Symbols.{symbol_content, symbol_bytes}
use Rattle.cv_record_writer.specs.Appended.{PutsRange, PutsFields, PutsSymbol}
use Rattle.cv_record_writer.proofs.Fields.{number_then}
use Rattle.cv_record_writer.proofs.RangePuts.{range_in}
use Rattle.cv_record_writer.proofs.RecordSpelled.{record_spelled, after_kind}

-- records without fields
pub end_fields : (old : List ℕ) → PutsFields SymKind.End [] old old
unfolding leaf_of
end_fields old = record { appended = sym (append-nil old); spells = λ size a b n. (refl, refl) }

pub proc_id_end_fields : (old : List ℕ) → PutsFields SymKind.ProcIdEnd [] old old
unfolding leaf_of
proc_id_end_fields old = record { appended = sym (append-nil old); spells = λ size a b n. (refl, refl) }

-- records whose fields don't depend on how many bytes they have
pub frame_proc_fields : (a b c d e f flags : ℕ) (bytes old new : List ℕ) → Puts frame_proc (SymKind.FrameProc a b c d e f flags) bytes old new → PutsFields (SymKind.FrameProc a b c d e f flags) bytes old new
unfolding leaf_of
frame_proc_fields a b c d e f flags bytes old new p = record { appended = p.appended; spells = λ size g h. p.spells }

pub block_fields : (parent end len offset section : ℕ) (name : List ℕ) (bytes old new : List ℕ) → Puts block (SymKind.Block parent end len offset section name) bytes old new → PutsFields (SymKind.Block parent end len offset section name) bytes old new
unfolding leaf_of
block_fields parent end len offset section name bytes old new p = record { appended = p.appended; spells = λ size a b. p.spells }

pub constant_fields : (ty : ℕ) (value : ℤ) (name : List ℕ) (bytes old new : List ℕ) → Puts constant (SymKind.Constant ty value name) bytes old new → PutsFields (SymKind.Constant ty value name) bytes old new
unfolding leaf_of
constant_fields ty value name bytes old new p = record { appended = p.appended; spells = λ size a b. p.spells }

pub udt_fields : (ty : ℕ) (name : List ℕ) (bytes old new : List ℕ) → Puts udt (SymKind.Udt ty name) bytes old new → PutsFields (SymKind.Udt ty name) bytes old new
unfolding leaf_of
udt_fields ty name bytes old new p = record { appended = p.appended; spells = λ size a b. p.spells }

pub local_fields : (ty flags : ℕ) (name : List ℕ) (bytes old new : List ℕ) → Puts local_variable (SymKind.Local ty flags name) bytes old new → PutsFields (SymKind.Local ty flags name) bytes old new
unfolding leaf_of
local_fields ty flags name bytes old new p = record { appended = p.appended; spells = λ size a b. p.spells }

pub ldata_fields : (v : Datum) (bytes old new : List ℕ) → Puts datum v bytes old new → PutsFields (SymKind.LData v) bytes old new
unfolding leaf_of
ldata_fields v bytes old new p = record { appended = p.appended; spells = λ size g h. (puts_made SymKind.LData datum v bytes old new p).spells }

pub gdata_fields : (v : Datum) (bytes old new : List ℕ) → Puts datum v bytes old new → PutsFields (SymKind.GData v) bytes old new
unfolding leaf_of
gdata_fields v bytes old new p = record { appended = p.appended; spells = λ size g h. (puts_made SymKind.GData datum v bytes old new p).spells }

pub lproc_fields : (v : Proc) (bytes old new : List ℕ) → Puts proc v bytes old new → PutsFields (SymKind.LProc v) bytes old new
unfolding leaf_of
lproc_fields v bytes old new p = record { appended = p.appended; spells = λ size g h. (puts_made SymKind.LProc proc v bytes old new p).spells }

pub gproc_fields : (v : Proc) (bytes old new : List ℕ) → Puts proc v bytes old new → PutsFields (SymKind.GProc v) bytes old new
unfolding leaf_of
gproc_fields v bytes old new p = record { appended = p.appended; spells = λ size g h. (puts_made SymKind.GProc proc v bytes old new p).spells }

pub lproc_id_fields : (v : Proc) (bytes old new : List ℕ) → Puts proc v bytes old new → PutsFields (SymKind.LProcId v) bytes old new
unfolding leaf_of
lproc_id_fields v bytes old new p = record { appended = p.appended; spells = λ size g h. (puts_made SymKind.LProcId proc v bytes old new p).spells }

pub gproc_id_fields : (v : Proc) (bytes old new : List ℕ) → Puts proc v bytes old new → PutsFields (SymKind.GProcId v) bytes old new
unfolding leaf_of
gproc_id_fields v bytes old new p = record { appended = p.appended; spells = λ size g h. (puts_made SymKind.GProcId proc v bytes old new p).spells }

pub range_full_fields : (z : ℤ) (bytes old new : List ℕ) → Puts signed z bytes old new → PutsFields (SymKind.RangeFrameFull z) bytes old new
unfolding leaf_of
range_full_fields z bytes old new p = record { appended = p.appended; spells = λ size g h. (puts_made SymKind.RangeFrameFull signed z bytes old new p).spells }

-- records with a range, which has the bytes that the fields before it leave
pub range_reg_fields : (reg attributes : ℕ) (r : CvRange) (old l1 l2 new : List ℕ) → reg < 256 ^ 2 → l1 ≡ old ++ little_bytes 2 reg → attributes < 256 ^ 2 → l2 ≡ l1 ++ little_bytes 2 attributes → PutsRange r l2 new → PutsFields (SymKind.RangeReg reg attributes r) (range_reg_bytes reg attributes r) old new
unfolding leaf_of
range_reg_fields reg attributes r old l1 l2 new h0 e0 h1 e1 p =
    record { appended = (in_bytes (length (range_reg_bytes reg attributes r)) (omega arith) (omega arith)).appended; spells = λ size g h. (in_bytes size g h).spells }
  where
    long : length (range_reg_bytes reg attributes r) ≡ 4 + length (range_bytes r)
    long = omega (arith, length-append (little_bytes 2 reg) (little_bytes 2 attributes ++ range_bytes r), length-bytes_low_first 0 2 reg, length-append (little_bytes 2 attributes) (range_bytes r), length-bytes_low_first 0 2 attributes)

    in_bytes : (size : ℕ) → length (range_reg_bytes reg attributes r) ≤ size → size < length (range_reg_bytes reg attributes r) + 4 → Puts (range_reg size) (SymKind.RangeReg reg attributes r) (range_reg_bytes reg attributes r) old new
    in_bytes size g h =
        number_then 2 reg _ _ _ old l1 new h0 e0 (number_then 2 attributes _ _ _ l1 l2 new h1 e1 (puts_made (SymKind.RangeReg reg attributes) (range (size - 2 - 2)) r (range_bytes r) l2 new (range_in r l2 new (size - 2 - 2) p (omega (arith, g, long)) (omega (arith, h, long)))))

pub range_frame_fields : (offset : ℤ) (r : CvRange) (old l1 new : List ℕ) → Puts signed offset (signed_bytes offset) old l1 → PutsRange r l1 new → PutsFields (SymKind.RangeFrame offset r) (range_frame_bytes offset r) old new
unfolding leaf_of
range_frame_fields offset r old l1 new p0 p =
    record { appended = (in_bytes (length (range_frame_bytes offset r)) (omega arith) (omega arith)).appended; spells = λ size g h. (in_bytes size g h).spells }
  where
    long : length (range_frame_bytes offset r) ≡ 4 + length (range_bytes r)
    long = omega (arith, length-append (signed_bytes offset) (range_bytes r), length-bytes_low_first 0 4 (bits_of offset))

    in_bytes : (size : ℕ) → length (range_frame_bytes offset r) ≤ size → size < length (range_frame_bytes offset r) + 4 → Puts (range_frame size) (SymKind.RangeFrame offset r) (range_frame_bytes offset r) old new
    in_bytes size g h =
        puts_then signed _ offset _ (signed_bytes offset) _ old l1 new p0 (puts_made (SymKind.RangeFrame offset) (range (size - 4)) r (range_bytes r) l1 new (range_in r l1 new (size - 4) p (omega (arith, g, long)) (omega (arith, h, long))))

pub range_subfield_fields : (reg attributes at : ℕ) (r : CvRange) (old l1 l2 l3 new : List ℕ) → reg < 256 ^ 2 → l1 ≡ old ++ little_bytes 2 reg → attributes < 256 ^ 2 → l2 ≡ l1 ++ little_bytes 2 attributes → at < 256 ^ 4 → l3 ≡ l2 ++ little_bytes 4 at → PutsRange r l3 new → PutsFields (SymKind.RangeSubfield reg attributes at r) (range_subfield_bytes reg attributes at r) old new
unfolding leaf_of
range_subfield_fields reg attributes at r old l1 l2 l3 new h0 e0 h1 e1 h2 e2 p =
    record { appended = (in_bytes (length (range_subfield_bytes reg attributes at r)) (omega arith) (omega arith)).appended; spells = λ size g h. (in_bytes size g h).spells }
  where
    long : length (range_subfield_bytes reg attributes at r) ≡ 8 + length (range_bytes r)
    long = omega (arith, length-append (little_bytes 2 reg) (little_bytes 2 attributes ++ (little_bytes 4 at ++ range_bytes r)), length-bytes_low_first 0 2 reg, length-append (little_bytes 2 attributes) (little_bytes 4 at ++ range_bytes r), length-bytes_low_first 0 2 attributes, length-append (little_bytes 4 at) (range_bytes r), length-bytes_low_first 0 4 at)

    in_bytes : (size : ℕ) → length (range_subfield_bytes reg attributes at r) ≤ size → size < length (range_subfield_bytes reg attributes at r) + 4 → Puts (range_subfield size) (SymKind.RangeSubfield reg attributes at r) (range_subfield_bytes reg attributes at r) old new
    in_bytes size g h =
        number_then 2 reg _ _ _ old l1 new h0 e0 (number_then 2 attributes _ _ _ l1 l2 new h1 e1 (number_then 4 at _ _ _ l2 l3 new h2 e2 (puts_made (SymKind.RangeSubfield reg attributes at) (range (size - 2 - 2 - 4)) r (range_bytes r) l3 new (range_in r l3 new (size - 2 - 2 - 4) p (omega (arith, g, long)) (omega (arith, h, long))))))

pub range_rel_fields : (reg flags : ℕ) (offset : ℤ) (r : CvRange) (old l1 l2 l3 new : List ℕ) → reg < 256 ^ 2 → l1 ≡ old ++ little_bytes 2 reg → flags < 256 ^ 2 → l2 ≡ l1 ++ little_bytes 2 flags → Puts signed offset (signed_bytes offset) l2 l3 → PutsRange r l3 new → PutsFields (SymKind.RangeRel reg flags offset r) (range_rel_bytes reg flags offset r) old new
unfolding leaf_of
range_rel_fields reg flags offset r old l1 l2 l3 new h0 e0 h1 e1 p2 p =
    record { appended = (in_bytes (length (range_rel_bytes reg flags offset r)) (omega arith) (omega arith)).appended; spells = λ size g h. (in_bytes size g h).spells }
  where
    long : length (range_rel_bytes reg flags offset r) ≡ 8 + length (range_bytes r)
    long = omega (arith, length-append (little_bytes 2 reg) (little_bytes 2 flags ++ (signed_bytes offset ++ range_bytes r)), length-bytes_low_first 0 2 reg, length-append (little_bytes 2 flags) (signed_bytes offset ++ range_bytes r), length-bytes_low_first 0 2 flags, length-append (signed_bytes offset) (range_bytes r), length-bytes_low_first 0 4 (bits_of offset))

    in_bytes : (size : ℕ) → length (range_rel_bytes reg flags offset r) ≤ size → size < length (range_rel_bytes reg flags offset r) + 4 → Puts (range_rel size) (SymKind.RangeRel reg flags offset r) (range_rel_bytes reg flags offset r) old new
    in_bytes size g h =
        number_then 2 reg _ _ _ old l1 new h0 e0 (number_then 2 flags _ _ _ l1 l2 new h1 e1 (puts_then signed _ offset _ (signed_bytes offset) _ l2 l3 new p2 (puts_made (SymKind.RangeRel reg flags offset) (range (size - 2 - 2 - 4)) r (range_bytes r) l3 new (range_in r l3 new (size - 2 - 2 - 4) p (omega (arith, g, long)) (omega (arith, h, long))))))

-- at most three zeros
zeros_few : (size : ℕ) → length (zeros (pad_size size)) < 4
zeros_few size = omega (arith, length-take {A = ℕ} (pad_size size) (0 ∷ 0 ∷ 0 ∷ []))

-- what is put together for a record is its content
pub content_is : (kind : SymKind) (number : ℕ) (none one two three : List ℕ) → none ≡ [] → number ≡ number_of kind → one ≡ none ++ little_bytes 2 number → PutsFields kind (fields_bytes kind) one two
    → three ≡ two ++ zeros (pad_size (2 + length two)) → three ≡ symbol_content kind
content_is kind number none one two three a b c d e =
    let start : one ≡ little_bytes 2 (number_of kind) = c ∙ ap (λ l. l ++ little_bytes 2 number) a ∙ ap (little_bytes 2) b in
    let both : two ≡ little_bytes 2 (number_of kind) ++ fields_bytes kind = d.appended ∙ ap (λ l. l ++ fields_bytes kind) start in
    e ∙ ap (λ l. l ++ zeros (pad_size (2 + length l))) both

-- a whole record
pub symbol_puts : (kind : SymKind) (content old new : List ℕ) → number_of kind < 256 ^ 2 → content ≡ symbol_content kind → length (symbol_content kind) ≤ 65535 → new ≡ old ++ record_bytes content → (l m : List ℕ)
    → PutsFields kind (fields_bytes kind) l m → PutsSymbol kind old new
symbol_puts kind content old new k c b e l m p =
    let start = little_bytes 2 (number_of kind) ++ fields_bytes kind in
    let pad = zeros (pad_size (2 + length start)) in
    let few : length pad < 4 = zeros_few (2 + length start) in
    let left : length (start ++ pad) - 2 ≡ length (fields_bytes kind) + length pad = after_kind (number_of kind) (fields_bytes kind) pad in
    record {
      appended = e ∙ ap (λ z. old ++ record_bytes z) c;
      spells = record_spelled sym_rec contents (number_of kind) kind (fields_bytes kind) pad k b (p.spells (length (start ++ pad) - 2) (omega (arith, left)) (omega (arith, left, few)));
    }
