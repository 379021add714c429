-- The members so far.
use Rattle.std.proofs.Common.{take}
use Rattle.cv_record_writer.proofs.Lists.{Written}
use Rattle.cv_type_writer.specs.MemberBytes.{member_bytes}
use Rattle.cv_type_writer.proofs.MemberLists.{padded_member}
use Rattle.cv_type_writer.proofs.members.put_members.Given as goal

abbrev pub invariant-loop-member : goal.invariant-loop-member
invariant-loop-member l = Written padded_member member_bytes (take l.member-index l.members) l.fn.out l.out
