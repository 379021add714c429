-- The fields, one after the other.
use Rattle.std.proofs.Common.{arith}
use Rattle.rv_bytes.specs.Numbers.{text}
use Rattle.rv_bytes.proofs.Puts.{on_ok}
use Rattle.cv_parts.specs.Puts.{name_bytes}
use Rattle.cv_parts.proofs.PutForms.{puts_made}
use Rattle.cv_record_writer.proofs.Fields.{number_then}
use Rattle.cv_type_records.specs.declared.kinds.Member.{Member}
use Rattle.cv_type_writer.proofs.members.put_nest.Goals as goal

pub returns : goal.returns
returns c =
    on_ok (λ p. number_then 2 c.args.zero _ _ _ c.args.out.now c.put_u16.new.out c.put_name.new.out (omega arith) c.in_ok-put_u16.ensures.appended
    (number_then 4 c.args.ty _ _ _ c.put_u16.new.out c.put_u32.new.out c.put_name.new.out (omega arith) c.in_ok-put_u32.ensures.appended
    (puts_made (Member.Nest c.args.zero c.args.ty) text c.args.name.now (name_bytes c.args.name.now) c.put_u32.new.out c.put_name.new.out p)))
    c.put_name.result c.put_name.ensures.appended
