-- The fields, one after the other.
use Rattle.std.proofs.Common.{arith}
use Rattle.byteorder.specs.Endian.{little_bytes}
use Rattle.rv_bytes.specs.Numbers.{number}
use Rattle.rv_bytes.proofs.Puts.{on_ok}
use Rattle.cv_parts.proofs.PutForms.{puts_number, puts_made}
use Rattle.cv_record_writer.proofs.Fields.{number_then}
use Rattle.cv_type_records.specs.declared.kinds.Member.{Member}
use Rattle.cv_type_writer.proofs.members.put_index.Goals as goal

pub returns : goal.returns
returns c =
    on_ok (λ p. number_then 2 c.args.zero _ _ _ c.args.out.now c.put_u16.new.out c.put_u32.new.out (omega arith) c.in_ok-put_u16.ensures.appended
    (puts_made (Member.Index c.args.zero) (number 4) c.args.fields (little_bytes 4 c.args.fields) c.put_u16.new.out c.put_u32.new.out (puts_number 4 c.args.fields c.put_u16.new.out c.put_u32.new.out (omega arith) p)))
    c.put_u32.result c.put_u32.ensures.appended
