-- The fields, one after the other.
use Rattle.std.proofs.Common.{arith}
use Rattle.byteorder.specs.Endian.{little_bytes}
use Rattle.rv_bytes.specs.Numbers.{number}
use Rattle.rv_bytes.proofs.Puts.{on_ok}
use Rattle.cv_parts.proofs.PutForms.{puts_number, puts_made}
use Rattle.cv_record_writer.proofs.Fields.{number_then}
use Rattle.cv_type_records.specs.declared.kinds.TypeKind.{TypeKind}
use Rattle.cv_type_writer.proofs.TypePuts.{procedure_fields}
use Rattle.cv_type_writer.proofs.fields.put_procedure.Goals as goal

pub returns : goal.returns
returns c =
    on_ok (λ p. procedure_fields _ _ _ _ _ _ c.args.out.now c.put_u32-2.new.out
    (number_then 4 c.args.returned _ _ _ c.args.out.now c.put_u32.new.out c.put_u32-2.new.out (omega arith) c.in_ok-put_u32.ensures.appended
    (number_then 1 c.args.call _ _ _ c.put_u32.new.out c.put_u8.new.out c.put_u32-2.new.out (omega arith) c.in_ok-put_u8.ensures.appended
    (number_then 1 c.args.options _ _ _ c.put_u8.new.out c.put_u8-2.new.out c.put_u32-2.new.out (omega arith) c.in_ok-put_u8-2.ensures.appended
    (number_then 2 c.args.count _ _ _ c.put_u8-2.new.out c.put_u16.new.out c.put_u32-2.new.out (omega arith) c.in_ok-put_u16.ensures.appended
    (puts_made (TypeKind.Procedure c.args.returned c.args.call c.args.options c.args.count) (number 4) c.args.args (little_bytes 4 c.args.args) c.put_u16.new.out c.put_u32-2.new.out (puts_number 4 c.args.args c.put_u16.new.out c.put_u32-2.new.out (omega arith) p)))))))
    c.put_u32-2.result c.put_u32-2.ensures.appended
