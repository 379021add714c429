-- The fields, one after the other.
use Rattle.std.proofs.Common.{arith}
use Rattle.byteorder.specs.Endian.{little_bytes}
use Rattle.rv_bytes.specs.Numbers.{number}
use Rattle.rv_bytes.proofs.Puts.{on_ok}
use Rattle.cv_parts.proofs.PutForms.{puts_number, puts_made}
use Rattle.cv_record_writer.proofs.Fields.{number_then}
use Rattle.cv_type_records.specs.declared.kinds.TypeKind.{TypeKind}
use Rattle.cv_type_writer.proofs.TypePuts.{modifier_fields}
use Rattle.cv_type_writer.proofs.fields.put_modifier.Goals as goal

pub returns : goal.returns
returns c =
    on_ok (λ p. modifier_fields _ _ _ c.args.out.now c.put_u16.new.out
    (number_then 4 c.args.ty _ _ _ c.args.out.now c.put_u32.new.out c.put_u16.new.out (omega arith) c.in_ok-put_u32.ensures.appended
    (puts_made (TypeKind.Modifier c.args.ty) (number 2) c.args.modifiers (little_bytes 2 c.args.modifiers) c.put_u32.new.out c.put_u16.new.out (puts_number 2 c.args.modifiers c.put_u32.new.out c.put_u16.new.out (omega arith) p))))
    c.put_u16.result c.put_u16.ensures.appended
