-- The fields, one after the other.
use Rattle.std.proofs.Common.{arith}
use Rattle.byteorder.specs.Endian.{little_bytes}
use Rattle.rv_bytes.specs.Numbers.{number}
use Rattle.rv_bytes.proofs.Puts.{on_ok}
use Rattle.cv_parts.proofs.PutForms.{puts_number, puts_made}
use Rattle.cv_record_writer.proofs.Fields.{number_then}
use Rattle.cv_type_records.specs.declared.kinds.TypeKind.{TypeKind}
use Rattle.cv_type_writer.proofs.TypePuts.{pointer_fields}
use Rattle.cv_type_writer.proofs.fields.put_pointer.Goals as goal

pub returns : goal.returns
returns c =
    on_ok (λ p. pointer_fields _ _ _ c.args.out.now c.put_u32-2.new.out
    (number_then 4 c.args.ty _ _ _ c.args.out.now c.put_u32.new.out c.put_u32-2.new.out (omega arith) c.in_ok-put_u32.ensures.appended
    (puts_made (TypeKind.Pointer c.args.ty) (number 4) c.args.attributes (little_bytes 4 c.args.attributes) c.put_u32.new.out c.put_u32-2.new.out (puts_number 4 c.args.attributes c.put_u32.new.out c.put_u32-2.new.out (omega arith) p))))
    c.put_u32-2.result c.put_u32-2.ensures.appended
