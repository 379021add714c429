-- The leaf, the fields, and the pad.
use Rattle.std.proofs.Common.{length, ap, arith}
use Rattle.rv_bytes.proofs.Puts.{on_ok}
use Rattle.cv_type_writer.proofs.MemberLists.{member_puts}
use Rattle.cv_type_writer.proofs.members.put_member.Goals as goal

pub returns : goal.returns
returns c =
    on_ok
    (member_puts c.args.member.now c.leaf_number.result _ c.args.out.now c.put_u16.new.out c.put_member_fields.new.out c.put_pads.new.out c.leaf_number.ensures c.in_ok-put_u16.ensures.appended c.in_ok-put_member_fields.ensures (omega (arith, ap length c.as_bytes-start.ensures, ap length c.as_bytes-end.ensures)))
    c.put_pads.result c.put_pads.ensures
