-- The fields, one after the other.
use Rattle.std.proofs.Common.{◌≡◌, ◌++◌, subst, arith}
use Rattle.std.specs.Int.{w128}
use Rattle.std.proofs.lemmas.Int.{to_z-of_z}
use Rattle.rv_bytes.specs.Numbers.{text}
use Rattle.rv_bytes.specs.Leaves.{numeric_bytes}
use Rattle.rv_bytes.proofs.LeafBytes.{numeric_spelled}
use Rattle.rv_bytes.proofs.Puts.{on_ok}
use Rattle.cv_parts.specs.Puts.{name_bytes}
use Rattle.cv_parts.proofs.PutForms.{puts_made}
use Rattle.cv_record_writer.proofs.Fields.{number_then, numeric_then}
use Rattle.cv_type_records.specs.declared.kinds.Member.{Member}
use Rattle.cv_type_writer.proofs.members.put_enumerate.Goals as goal

pub returns : goal.returns
returns c =
    on_ok (λ p. number_then 2 c.args.attributes _ _ _ c.args.out.now c.put_u16.new.out c.put_name.new.out (omega arith) c.in_ok-put_u16.ensures.appended
    (numeric_then c.args.number _ _ _ c.put_u16.new.out c.put_numeric.new.out c.put_name.new.out (numeric_spelled c.args.number c.requires.number.low c.requires.number.high) (subst (λ z. c.put_numeric.new.out ≡ c.put_u16.new.out ++ numeric_bytes z) (to_z-of_z w128 c.args.number c.ranges.number) c.in_ok-put_numeric.ensures.appended)
    (puts_made (Member.Enumerate c.args.attributes c.args.number) text c.args.name.now (name_bytes c.args.name.now) c.put_numeric.new.out c.put_name.new.out p)))
    c.put_name.result c.put_name.ensures.appended
