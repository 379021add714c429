-- The fields, one after the other.
use Rattle.std.proofs.Common.{arith}
use Rattle.rv_bytes.proofs.Puts.{on_ok}
use Rattle.cv_parts.proofs.PutForms.{puts_made}
use Rattle.cv_record_writer.proofs.Fields.{number_then, name_then}
use Rattle.cv_type_records.specs.Contents.{unique}
use Rattle.cv_type_records.specs.declared.kinds.TypeKind.{TypeKind}
use Rattle.cv_type_writer.specs.TypeBytes.{unique_bytes}
use Rattle.cv_type_writer.proofs.TypePuts.{enum_fields, unique_puts}
use Rattle.cv_type_writer.proofs.fields.put_enum.Goals as goal

pub returns : goal.returns
returns c =
    on_ok (λ p. enum_fields _ _ _ _ _ _ _ c.args.out.now c.put_unique.new.out
    (number_then 2 c.args.count _ _ _ c.args.out.now c.put_u16.new.out c.put_unique.new.out (omega arith) c.in_ok-put_u16.ensures.appended
    (number_then 2 c.args.property _ _ _ c.put_u16.new.out c.put_u16-2.new.out c.put_unique.new.out (omega arith) c.in_ok-put_u16-2.ensures.appended
    (number_then 4 c.args.ty _ _ _ c.put_u16-2.new.out c.put_u32.new.out c.put_unique.new.out (omega arith) c.in_ok-put_u32.ensures.appended
    (number_then 4 c.args.fields _ _ _ c.put_u32.new.out c.put_u32-2.new.out c.put_unique.new.out (omega arith) c.in_ok-put_u32-2.ensures.appended
    (name_then c.args.name.now _ _ _ c.put_u32-2.new.out c.put_name.new.out c.put_unique.new.out c.in_ok-put_name.ensures.appended
    (puts_made (TypeKind.Enum c.args.count c.args.property c.args.ty c.args.fields c.args.name.now) (unique c.args.property) c.args.unique.now (unique_bytes c.args.unique.now) c.put_name.new.out c.put_unique.new.out (unique_puts c.args.property c.args.unique.now c.put_name.new.out c.put_unique.new.out p c.requires.unique.there))))))))
    c.put_unique.result c.put_unique.ensures
