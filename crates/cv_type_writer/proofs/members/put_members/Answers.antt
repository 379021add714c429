-- One member more.
use Rattle.cv_record_writer.proofs.Lists.{written_none}
use Rattle.cv_type_writer.specs.MemberBytes.{member_bytes}
use Rattle.cv_type_writer.proofs.MemberLists.{padded_member, members_more, members_whole}
use Rattle.cv_type_writer.proofs.members.put_members.Goals as goal

pub loop-member-init : goal.loop-member-init
loop-member-init c = written_none padded_member member_bytes c.args.out.now

pub loop-member-preserved : goal.loop-member-preserved
loop-member-preserved c =
    members_more c.args.members.now c.loop-member.member-index c.member-item.result c.args.out.now c.loop-member.out c.put_member.new.out c.loop-member-test.true c.member-item.is c.loop-member.invariant c.in_ok-put_member.ensures

pub returns : goal.returns
returns c = members_whole c.args.members.now c.loop-member.member-index c.args.out.now c.loop-member.out c.loop-member-test.false c.loop-member.invariant
