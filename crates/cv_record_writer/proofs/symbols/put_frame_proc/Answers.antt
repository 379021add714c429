-- The fields, one after the other.
use Rattle.std.proofs.Common.{arith}
use Rattle.byteorder.specs.Endian.{little_bytes}
use Rattle.rv_bytes.specs.Numbers.{number, text}
use Rattle.rv_bytes.proofs.Puts.{on_ok}
use Rattle.cv_parts.specs.Puts.{name_bytes}
use Rattle.cv_parts.proofs.PutForms.{puts_number, puts_made, puts_then}
use Rattle.cv_record_writer.proofs.Fields.{number_then, numeric_then}
use Rattle.cv_symbol_records.specs.declared.kinds.SymKind.{SymKind}
use Rattle.cv_record_writer.proofs.SymbolPuts.{frame_proc_fields}
use Rattle.cv_record_writer.proofs.symbols.put_frame_proc.Goals as goal

pub returns : goal.returns
returns c =
    on_ok (λ p. frame_proc_fields c.args.a c.args.b c.args.c c.args.d c.args.e c.args.f c.args.flags _ c.args.out.now c.put_u32-6.new.out (number_then 4 c.args.a _ _ _ c.args.out.now c.put_u32.new.out c.put_u32-6.new.out (omega arith) c.in_ok-put_u32.ensures.appended
    (number_then 4 c.args.b _ _ _ c.put_u32.new.out c.put_u32-2.new.out c.put_u32-6.new.out (omega arith) c.in_ok-put_u32-2.ensures.appended
    (number_then 4 c.args.c _ _ _ c.put_u32-2.new.out c.put_u32-3.new.out c.put_u32-6.new.out (omega arith) c.in_ok-put_u32-3.ensures.appended
    (number_then 4 c.args.d _ _ _ c.put_u32-3.new.out c.put_u32-4.new.out c.put_u32-6.new.out (omega arith) c.in_ok-put_u32-4.ensures.appended
    (number_then 4 c.args.e _ _ _ c.put_u32-4.new.out c.put_u32-5.new.out c.put_u32-6.new.out (omega arith) c.in_ok-put_u32-5.ensures.appended
    (number_then 2 c.args.f _ _ _ c.put_u32-5.new.out c.put_u16.new.out c.put_u32-6.new.out (omega arith) c.in_ok-put_u16.ensures.appended
    (puts_made (SymKind.FrameProc c.args.a c.args.b c.args.c c.args.d c.args.e c.args.f) (number 4) c.args.flags (little_bytes 4 c.args.flags) c.put_u16.new.out c.put_u32-6.new.out (puts_number 4 c.args.flags c.put_u16.new.out c.put_u32-6.new.out (omega arith) p)))))))))
    c.put_u32-6.result c.put_u32-6.ensures.appended
