-- The next member is read, is a pad, or is invalid; or no byte is left.
use Rattle.std.proofs.Common.{◌≡◌, ◌<◌, ◌++◌, length, Some, None, refl, ap, subst, ◌∙◌, arith, append-nil}
use Rattle.std.proofs.lemmas.Result.{err_from_is_err_and}
use Rattle.rv_bytes.specs.Readers.{got, with_value}
use Rattle.rv_bytes.proofs.Calls.{refusal_on}
use Rattle.cv_parts.specs.RecordReaders.{read_all}
use Rattle.cv_parts.proofs.Series.{keeps_on, keeps_end, keeps_bad, takes_bytes}
use Rattle.cv_type_records.specs.Members.{member, of_option, kept}
use Rattle.cv_type_records.specs.MemberReaders.{read_member}
use Rattle.cv_type_records.proofs.MemberForms.{member_exact, member_byte, kept_first}
use Rattle.cv_type_records.proofs.members.read_members.Goals as goal

pub returns-in_err-member : goal.returns-in_err-member
returns-in_err-member c =
    let p = err_from_is_err_and c.from_residual.result c.from_residual.ensures.1 in
    let l : 0 < length c.loop-alloc.cut.rest = omega (arith, c.left.ensures, c.loop-alloc-test.true) in
    rw (p.1, p.2)
    (refusal_on (read_member c.loop-alloc.cut.at c.loop-alloc.cut.rest) _ _ _ _ c.in_err-member.ensures
    (λ r m e. keeps_bad (λ _. member) (λ _. read_member) kept (with_value kept (read_all (λ _. read_member) c.args.cut.now.at c.args.cut.now.rest)) c.loop-alloc.members c.loop-alloc.cut.at c.loop-alloc.cut.rest r m c.loop-alloc.invariant l e))

pub loop-alloc-preserved-in_default : goal.loop-alloc-preserved-in_default
loop-alloc-preserved-in_default c =
    let l : 0 < length c.loop-alloc.cut.rest = omega (arith, c.left.ensures, c.loop-alloc-test.true) in
    let e : read_member c.loop-alloc.cut.at c.loop-alloc.cut.rest ≡ got None c.read_member.new.cut.at c.read_member.new.cut.rest =
    c.in_ok-member.ensures ∙ ap (λ o. got o c.read_member.new.cut.at c.read_member.new.cut.rest) c.in_default.is in
    subst (λ acc. with_value (λ ms. acc ++ kept ms) (read_all (λ _. read_member) c.read_member.new.cut.at c.read_member.new.cut.rest) ≡ with_value kept (read_all (λ _. read_member) c.args.cut.now.at c.args.cut.now.rest)) (append-nil c.loop-alloc.members)
    (keeps_on (λ _. member) (λ _. read_member) (λ _. member_byte) (λ _. member_exact) kept of_option kept_first (with_value kept (read_all (λ _. read_member) c.args.cut.now.at c.args.cut.now.rest)) c.loop-alloc.members
    c.loop-alloc.cut.at c.loop-alloc.cut.rest None c.read_member.new.cut.at c.read_member.new.cut.rest c.loop-alloc.invariant l e)

pub loop-alloc-smaller : goal.loop-alloc-smaller
loop-alloc-smaller c =
    takes_bytes member read_member member_byte member_exact c.loop-alloc.cut.at c.loop-alloc.cut.rest c.in_ok-member.field-0 c.read_member.new.cut.at c.read_member.new.cut.rest c.in_ok-member.ensures

pub loop-alloc-preserved : goal.loop-alloc-preserved
loop-alloc-preserved c =
    let l : 0 < length c.loop-alloc.cut.rest = omega (arith, c.left.ensures, c.loop-alloc-test.true) in
    let e : read_member c.loop-alloc.cut.at c.loop-alloc.cut.rest ≡ got (Some c.in-Some.member) c.read_member.new.cut.at c.read_member.new.cut.rest =
    c.in_ok-member.ensures ∙ ap (λ o. got o c.read_member.new.cut.at c.read_member.new.cut.rest) c.in-Some.is in
    rw c.in_ok-push.ensures.last
    (keeps_on (λ _. member) (λ _. read_member) (λ _. member_byte) (λ _. member_exact) kept of_option kept_first (with_value kept (read_all (λ _. read_member) c.args.cut.now.at c.args.cut.now.rest)) c.loop-alloc.members
    c.loop-alloc.cut.at c.loop-alloc.cut.rest (Some c.in-Some.member) c.read_member.new.cut.at c.read_member.new.cut.rest c.loop-alloc.invariant l e)

pub returns : goal.returns
returns c =
    keeps_end (λ _. member) (λ _. read_member) kept refl (with_value kept (read_all (λ _. read_member) c.args.cut.now.at c.args.cut.now.rest)) c.loop-alloc.members c.loop-alloc.cut.at c.loop-alloc.cut.rest c.loop-alloc.invariant
    (omega (arith, c.left.ensures, c.loop-alloc-test.false))
