use Rattle.std.proofs.Common.{◌∙◌, sym, ap, subst, [], codes}
use Rattle.std.proofs.lemmas.Result.{err_from_is_err_and}
use Rattle.names.specs.Reading.{got, literal}
use Rattle.names.specs.Plain.{has_some}
use Rattle.cv_names.specs.CvGrammar.{cv, may_stand, form_of, seg_of}
use Rattle.names.specs.Steps.{Stepped}
use Rattle.names.proofs.Scans.{Stepped-err}
use Rattle.names.proofs.Lists.{stops_bad, stops_done, stops_after, goes_on, turn_shorter}
use Rattle.cv_names.proofs.CvLaws.{cv_is, cv_none, form_reads, whole_suffix, arg_suffix, member_suffix, seg_suffix}
use Rattle.cv_names.proofs.cv_reader.+cv_reading.Goals as goal

pub cv_whole-returns-then-depth-eq0 : goal.cv_whole-returns-then-depth-eq0
cv_whole-returns-then-depth-eq0 t c = ap (λ L. L.whole.read c.args.text.now) (cv_none c.args.depth c.if-depth-eq0.true)

pub cv_whole-returns : goal.cv_whole-returns
cv_whole-returns t c =
    subst (λ L. Stepped (L.whole.read c.args.text.now) c.cv_name.result c.cv_name.new.text) (sym (cv_is c.args.depth c.if-depth-eq0.false)) c.cv_name.ensures

pub cv_arg-returns-then-depth-eq0 : goal.cv_arg-returns-then-depth-eq0
cv_arg-returns-then-depth-eq0 t c = ap (λ L. L.arg.read c.args.text.now) (cv_none c.args.depth c.if-depth-eq0.true)

pub cv_arg-returns : goal.cv_arg-returns
cv_arg-returns t c =
    subst (λ L. Stepped (L.arg.read c.args.text.now) c.cv_arg_within.result c.cv_arg_within.new.text)
    (sym (cv_is c.args.depth c.if-depth-eq0.false)) c.cv_arg_within.ensures

pub cv_member-returns-then-depth-eq0 : goal.cv_member-returns-then-depth-eq0
cv_member-returns-then-depth-eq0 t c = ap (λ L. L.member.read c.args.text.now) (cv_none c.args.depth c.if-depth-eq0.true)

pub cv_member-returns : goal.cv_member-returns
cv_member-returns t c =
    subst (λ L. Stepped (L.member.read c.args.text.now) c.cv_path.result c.cv_path.new.text) (sym (cv_is c.args.depth c.if-depth-eq0.false)) c.cv_path.ensures

pub cv_wholes-returns-in_err-name : goal.cv_wholes-returns-in_err-name
cv_wholes-returns-in_err-name t c =
    let p = err_from_is_err_and c.from_residual.result c.from_residual.ensures.1 in
    rw (p.1, p.2) (Stepped-err ((cv c.args.inner).whole.read c.loop-names.text) _ _ _ c.in_err-name.ensures
    (stops_bad (cv c.args.inner).whole 44 [] (whole_suffix c.args.inner) c.loop-names.names c.args.text.now c.loop-names.text c.loop-names.invariant))

pub cv_wholes-returns-then-not-begins : goal.cv_wholes-returns-then-not-begins
cv_wholes-returns-then-not-begins t c =
    rw c.in_ok-push.ensures.last
    (stops_done (cv c.args.inner).whole 44 []
    (whole_suffix c.args.inner) c.loop-names.names c.args.text.now c.loop-names.text c.loop-names.invariant c.cv_whole.new.text c.in_ok-name.name
    c.in_ok-name.ensures (sym c.if-not-begins.ensures))

pub cv_wholes-loop-names-smaller : goal.cv_wholes-loop-names-smaller
cv_wholes-loop-names-smaller t c =
    turn_shorter (cv c.args.inner).whole 44 []
    (whole_suffix c.args.inner) c.loop-names.text c.cv_whole.new.text c.skip.new.self c.in_ok-name.name c.in_ok-name.ensures
    (sym c.if-not-begins.ensures) (ap (got tt) (sym c.skip.ensures))

pub cv_wholes-loop-names-preserved : goal.cv_wholes-loop-names-preserved
cv_wholes-loop-names-preserved t c =
    rw c.in_ok-push.ensures.last
    (goes_on (cv c.args.inner).whole 44 []
    (whole_suffix c.args.inner) c.loop-names.names c.args.text.now c.loop-names.text c.loop-names.invariant c.cv_whole.new.text c.skip.new.self
    c.in_ok-name.name c.in_ok-name.ensures (sym c.if-not-begins.ensures) (ap (got tt) (sym c.skip.ensures)))

pub cv_each_arg-returns-in_err-name : goal.cv_each_arg-returns-in_err-name
cv_each_arg-returns-in_err-name t c =
    let p = err_from_is_err_and c.from_residual.result c.from_residual.ensures.1 in
    rw (p.1, p.2) (Stepped-err ((cv c.args.inner).arg.read c.loop-names.text) _ _ _ c.in_err-name.ensures
    (stops_bad (cv c.args.inner).arg 44 [] (arg_suffix c.args.inner) c.loop-names.names c.args.text.now c.loop-names.text c.loop-names.invariant))

pub cv_each_arg-returns-then-not-begins : goal.cv_each_arg-returns-then-not-begins
cv_each_arg-returns-then-not-begins t c =
    rw c.in_ok-push.ensures.last
    (stops_done (cv c.args.inner).arg 44 []
    (arg_suffix c.args.inner) c.loop-names.names c.args.text.now c.loop-names.text c.loop-names.invariant c.cv_arg.new.text c.in_ok-name.name
    c.in_ok-name.ensures (sym c.if-not-begins.ensures))

pub cv_each_arg-loop-names-smaller : goal.cv_each_arg-loop-names-smaller
cv_each_arg-loop-names-smaller t c =
    turn_shorter (cv c.args.inner).arg 44 []
    (arg_suffix c.args.inner) c.loop-names.text c.cv_arg.new.text c.skip.new.self c.in_ok-name.name c.in_ok-name.ensures (sym c.if-not-begins.ensures)
    (ap (got tt) (sym c.skip.ensures))

pub cv_each_arg-loop-names-preserved : goal.cv_each_arg-loop-names-preserved
cv_each_arg-loop-names-preserved t c =
    rw c.in_ok-push.ensures.last
    (goes_on (cv c.args.inner).arg 44 []
    (arg_suffix c.args.inner) c.loop-names.names c.args.text.now c.loop-names.text c.loop-names.invariant c.cv_arg.new.text c.skip.new.self
    c.in_ok-name.name c.in_ok-name.ensures (sym c.if-not-begins.ensures) (ap (got tt) (sym c.skip.ensures)))

pub cv_members-returns-in_err-name : goal.cv_members-returns-in_err-name
cv_members-returns-in_err-name t c =
    let p = err_from_is_err_and c.from_residual.result c.from_residual.ensures.1 in
    rw (p.1, p.2) (Stepped-err ((cv c.args.inner).member.read c.loop-names.text) _ _ _ c.in_err-name.ensures
    (stops_bad (cv c.args.inner).member 44 [] (member_suffix c.args.inner) c.loop-names.names c.args.text.now c.loop-names.text c.loop-names.invariant))

pub cv_members-returns-then-not-begins : goal.cv_members-returns-then-not-begins
cv_members-returns-then-not-begins t c =
    rw c.in_ok-push.ensures.last
    (stops_done (cv c.args.inner).member 44 []
    (member_suffix c.args.inner) c.loop-names.names c.args.text.now c.loop-names.text c.loop-names.invariant c.cv_member.new.text c.in_ok-name.name
    c.in_ok-name.ensures (sym c.if-not-begins.ensures))

pub cv_members-loop-names-smaller : goal.cv_members-loop-names-smaller
cv_members-loop-names-smaller t c =
    turn_shorter (cv c.args.inner).member 44 []
    (member_suffix c.args.inner) c.loop-names.text c.cv_member.new.text c.skip.new.self c.in_ok-name.name c.in_ok-name.ensures
    (sym c.if-not-begins.ensures) (ap (got tt) (sym c.skip.ensures))

pub cv_members-loop-names-preserved : goal.cv_members-loop-names-preserved
cv_members-loop-names-preserved t c =
    rw c.in_ok-push.ensures.last
    (goes_on (cv c.args.inner).member 44 []
    (member_suffix c.args.inner) c.loop-names.names c.args.text.now c.loop-names.text c.loop-names.invariant c.cv_member.new.text c.skip.new.self
    c.in_ok-name.name c.in_ok-name.ensures (sym c.if-not-begins.ensures) (ap (got tt) (sym c.skip.ensures)))

pub cv_segs-returns-in_err-seg : goal.cv_segs-returns-in_err-seg
cv_segs-returns-in_err-seg t c =
    let p = err_from_is_err_and c.from_residual.result c.from_residual.ensures.1 in
    rw (p.1, p.2) (Stepped-err ((seg_of (has_some c.args.inner) (cv c.args.inner).arg).read c.loop-segs.text) _ _ _ c.in_err-seg.ensures
    (stops_bad (seg_of (has_some c.args.inner) (cv c.args.inner).arg) 58 (codes ":")
    (seg_suffix c.args.inner) c.loop-segs.segs c.args.text.now c.loop-segs.text c.loop-segs.invariant))

pub cv_segs-returns-then-not-begins : goal.cv_segs-returns-then-not-begins
cv_segs-returns-then-not-begins t c =
    rw c.in_ok-push.ensures.last
    (stops_done (seg_of (has_some c.args.inner) (cv c.args.inner).arg) 58 (codes ":")
    (seg_suffix c.args.inner) c.loop-segs.segs c.args.text.now c.loop-segs.text c.loop-segs.invariant c.cv_seg.new.text c.in_ok-seg.seg
    c.in_ok-seg.ensures (sym c.if-not-begins.ensures))

pub cv_segs-loop-segs-smaller : goal.cv_segs-loop-segs-smaller
cv_segs-loop-segs-smaller t c =
    turn_shorter (seg_of (has_some c.args.inner) (cv c.args.inner).arg) 58 (codes ":")
    (seg_suffix c.args.inner) c.loop-segs.text c.cv_seg.new.text c.literal.new.self c.in_ok-seg.seg c.in_ok-seg.ensures (sym c.if-not-begins.ensures)
    (rw (← c.skip.ensures) c.in_ok-literal.ensures)

pub cv_segs-loop-segs-preserved : goal.cv_segs-loop-segs-preserved
cv_segs-loop-segs-preserved t c =
    rw c.in_ok-push.ensures.last
    (goes_on (seg_of (has_some c.args.inner) (cv c.args.inner).arg) 58 (codes ":")
    (seg_suffix c.args.inner) c.loop-segs.segs c.args.text.now c.loop-segs.text c.loop-segs.invariant c.cv_seg.new.text c.literal.new.self
    c.in_ok-seg.seg c.in_ok-seg.ensures (sym c.if-not-begins.ensures) (rw (← c.skip.ensures) c.in_ok-literal.ensures))

pub cv_segs-returns-in_err-literal : goal.cv_segs-returns-in_err-literal
cv_segs-returns-in_err-literal t c =
    let p = err_from_is_err_and c.from_residual-in_err-literal.result c.from_residual-in_err-literal.ensures.1 in
    rw (p.1, p.2)
    (Stepped-err ((literal (codes ":")).read c.skip.new.self) _ _ _ c.in_err-literal.ensures
    (λ m f. stops_after (seg_of (has_some c.args.inner) (cv c.args.inner).arg) 58 (codes ":")
    (seg_suffix c.args.inner) c.loop-segs.segs c.args.text.now c.loop-segs.text c.loop-segs.invariant c.cv_seg.new.text m c.in_ok-seg.seg
    c.in_ok-seg.ensures (sym c.if-not-begins.ensures) (ap (literal (codes ":")).read (sym c.skip.ensures) ∙ f)))

-- the form that the word names may stand, and its `<` is next
pub after_dollar-returns-then-begins : goal.after_dollar-returns-then-begins
after_dollar-returns-then-begins t c =
    let deep = has_some c.args.inner in
    let form = c.in-Some.form in
    let may = ap (λ z. may_stand z c.args.in_arg form) (sym c.has_some.ensures) ∙ sym c.may_stand.ensures ∙ c.if-may_stand.true in
    let read = form_reads deep c.args.in_arg (cv c.args.inner) form c.args.first c.args.text.now (sym c.named.ensures ∙ c.in-Some.is) may
    (sym c.begins.ensures ∙ c.if-begins.true) in
    subst (λ r. Stepped r c.form_content.result c.form_content.new.text)
    (sym (read ∙ ap (form_of deep (cv c.args.inner) form).read (sym c.skip.ensures))) c.form_content.ensures
