use Rattle.std.proofs.Common.{◌≡◌, ◌++◌, length}
use Rattle.rv_bytes.specs.Readers.{with_value}
use Rattle.cv_parts.specs.RecordReaders.{read_all}
use Rattle.cv_type_records.specs.Members.{kept}
use Rattle.cv_type_records.specs.MemberReaders.{read_member}
use Rattle.cv_type_records.proofs.members.read_members.Given as goal

-- what was read, before what is still to be read, is the whole
abbrev pub invariant-loop-alloc : goal.invariant-loop-alloc
invariant-loop-alloc l = with_value (λ ms. l.members ++ kept ms) (read_all (λ _. read_member) l.cut.at l.cut.rest) ≡ with_value kept (read_all (λ _. read_member) l.fn.cut.at l.fn.cut.rest)

abbrev pub decreases-loop-alloc : goal.decreases-loop-alloc
decreases-loop-alloc l = length l.cut.rest
