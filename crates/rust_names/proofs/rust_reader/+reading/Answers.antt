use Rattle.std.proofs.Common.{◌∙◌, sym, ap, subst, codes}
use Rattle.std.proofs.lemmas.Result.{err_from_is_err_and}
use Rattle.names.specs.Reading.{literal}
use Rattle.rust_names.specs.RustGrammar.{rust, seg_of}
use Rattle.names.specs.Plain.{has_some}
use Rattle.names.specs.Steps.{Stepped}
use Rattle.names.proofs.Scans.{Stepped-err}
use Rattle.names.proofs.Lists.{stops_bad, stops_done, stops_after, goes_on, turn_shorter}
use Rattle.rust_names.proofs.RustLaws.{rust_is, rust_none, whole_suffix, arg_suffix, member_suffix, seg_suffix}
use Rattle.rust_names.proofs.rust_reader.+reading.Goals as goal

pub whole-returns-then-depth-eq0 : goal.whole-returns-then-depth-eq0
whole-returns-then-depth-eq0 t c = ap (λ L. L.whole.read c.args.text.now) (rust_none c.args.depth c.if-depth-eq0.true)

pub whole-returns : goal.whole-returns
whole-returns t c = subst (λ L. Stepped (L.whole.read c.args.text.now) c.whole_within.result c.whole_within.new.text)
    (sym (rust_is c.args.depth c.if-depth-eq0.false)) c.whole_within.ensures

pub arg-returns-then-depth-eq0 : goal.arg-returns-then-depth-eq0
arg-returns-then-depth-eq0 t c = ap (λ L. L.arg.read c.args.text.now) (rust_none c.args.depth c.if-depth-eq0.true)

pub arg-returns : goal.arg-returns
arg-returns t c = subst (λ L. Stepped (L.arg.read c.args.text.now) c.arg_within.result c.arg_within.new.text)
    (sym (rust_is c.args.depth c.if-depth-eq0.false)) c.arg_within.ensures

pub member-returns-then-depth-eq0 : goal.member-returns-then-depth-eq0
member-returns-then-depth-eq0 t c = ap (λ L. L.member.read c.args.text.now) (rust_none c.args.depth c.if-depth-eq0.true)

pub member-returns : goal.member-returns
member-returns t c =
    subst (λ L. Stepped (L.member.read c.args.text.now) c.member_within.result c.member_within.new.text)
    (sym (rust_is c.args.depth c.if-depth-eq0.false)) c.member_within.ensures

pub worded-returns-then-depth-eq0 : goal.worded-returns-then-depth-eq0
worded-returns-then-depth-eq0 t c = ap (λ L. (L.worded c.args.first).read c.args.text.now) (rust_none c.args.depth c.if-depth-eq0.true)

pub worded-returns : goal.worded-returns
worded-returns t c =
    subst (λ L. Stepped ((L.worded c.args.first).read c.args.text.now) c.worded_within.result c.worded_within.new.text)
    (sym (rust_is c.args.depth c.if-depth-eq0.false)) c.worded_within.ensures

pub plain-returns-then-depth-eq0 : goal.plain-returns-then-depth-eq0
plain-returns-then-depth-eq0 t c = ap (λ L. (L.plain c.args.first).read c.args.text.now) (rust_none c.args.depth c.if-depth-eq0.true)

pub plain-returns : goal.plain-returns
plain-returns t c = subst (λ L. Stepped ((L.plain c.args.first).read c.args.text.now) c.path_after.result c.path_after.new.text)
    (sym (rust_is c.args.depth c.if-depth-eq0.false)) c.path_after.ensures

pub symbol-returns-then-depth-eq0 : goal.symbol-returns-then-depth-eq0
symbol-returns-then-depth-eq0 t c = ap (λ L. (L.symbol c.args.unit).read c.args.text.now) (rust_none c.args.depth c.if-depth-eq0.true)

pub symbol-returns : goal.symbol-returns
symbol-returns t c =
    subst (λ L. Stepped ((L.symbol c.args.unit).read c.args.text.now) c.symbol_within.result c.symbol_within.new.text)
    (sym (rust_is c.args.depth c.if-depth-eq0.false)) c.symbol_within.ensures

pub wholes-returns-in_err-name : goal.wholes-returns-in_err-name
wholes-returns-in_err-name t c =
    let p = err_from_is_err_and c.from_residual.result c.from_residual.ensures.1 in
    rw (p.1, p.2) (Stepped-err ((rust c.args.inner).whole.read c.loop-names.text) _ _ _ c.in_err-name.ensures
    (stops_bad (rust c.args.inner).whole 44 (codes " ")
    (whole_suffix c.args.inner) c.loop-names.names c.args.text.now c.loop-names.text c.loop-names.invariant))

pub wholes-returns-then-not-begins : goal.wholes-returns-then-not-begins
wholes-returns-then-not-begins t c =
    rw c.in_ok-push.ensures.last
    (stops_done (rust c.args.inner).whole 44 (codes " ")
    (whole_suffix c.args.inner) c.loop-names.names c.args.text.now c.loop-names.text c.loop-names.invariant c.whole.new.text c.in_ok-name.name
    c.in_ok-name.ensures (sym c.if-not-begins.ensures))

pub wholes-loop-names-smaller : goal.wholes-loop-names-smaller
wholes-loop-names-smaller t c =
    turn_shorter (rust c.args.inner).whole 44 (codes " ")
    (whole_suffix c.args.inner) c.loop-names.text c.whole.new.text c.literal.new.self c.in_ok-name.name c.in_ok-name.ensures
    (sym c.if-not-begins.ensures) (rw (← c.skip.ensures) c.in_ok-literal.ensures)

pub wholes-loop-names-preserved : goal.wholes-loop-names-preserved
wholes-loop-names-preserved t c =
    rw c.in_ok-push.ensures.last
    (goes_on (rust c.args.inner).whole 44 (codes " ")
    (whole_suffix c.args.inner) c.loop-names.names c.args.text.now c.loop-names.text c.loop-names.invariant c.whole.new.text c.literal.new.self
    c.in_ok-name.name c.in_ok-name.ensures (sym c.if-not-begins.ensures) (rw (← c.skip.ensures) c.in_ok-literal.ensures))

pub wholes-returns-in_err-literal : goal.wholes-returns-in_err-literal
wholes-returns-in_err-literal t c =
    let p = err_from_is_err_and c.from_residual-in_err-literal.result c.from_residual-in_err-literal.ensures.1 in
    rw (p.1, p.2)
    (Stepped-err ((literal (codes " ")).read c.skip.new.self) _ _ _ c.in_err-literal.ensures
    (λ m f. stops_after (rust c.args.inner).whole 44 (codes " ")
    (whole_suffix c.args.inner) c.loop-names.names c.args.text.now c.loop-names.text c.loop-names.invariant c.whole.new.text m c.in_ok-name.name
    c.in_ok-name.ensures (sym c.if-not-begins.ensures) (ap (literal (codes " ")).read (sym c.skip.ensures) ∙ f)))

pub each_arg-returns-in_err-name : goal.each_arg-returns-in_err-name
each_arg-returns-in_err-name t c =
    let p = err_from_is_err_and c.from_residual.result c.from_residual.ensures.1 in
    rw (p.1, p.2) (Stepped-err ((rust c.args.inner).arg.read c.loop-names.text) _ _ _ c.in_err-name.ensures
    (stops_bad (rust c.args.inner).arg 44 (codes " ")
    (arg_suffix c.args.inner) c.loop-names.names c.args.text.now c.loop-names.text c.loop-names.invariant))

pub each_arg-returns-then-not-begins : goal.each_arg-returns-then-not-begins
each_arg-returns-then-not-begins t c =
    rw c.in_ok-push.ensures.last
    (stops_done (rust c.args.inner).arg 44 (codes " ")
    (arg_suffix c.args.inner) c.loop-names.names c.args.text.now c.loop-names.text c.loop-names.invariant c.arg.new.text c.in_ok-name.name
    c.in_ok-name.ensures (sym c.if-not-begins.ensures))

pub each_arg-loop-names-smaller : goal.each_arg-loop-names-smaller
each_arg-loop-names-smaller t c =
    turn_shorter (rust c.args.inner).arg 44 (codes " ")
    (arg_suffix c.args.inner) c.loop-names.text c.arg.new.text c.literal.new.self c.in_ok-name.name c.in_ok-name.ensures (sym c.if-not-begins.ensures)
    (rw (← c.skip.ensures) c.in_ok-literal.ensures)

pub each_arg-loop-names-preserved : goal.each_arg-loop-names-preserved
each_arg-loop-names-preserved t c =
    rw c.in_ok-push.ensures.last
    (goes_on (rust c.args.inner).arg 44 (codes " ")
    (arg_suffix c.args.inner) c.loop-names.names c.args.text.now c.loop-names.text c.loop-names.invariant c.arg.new.text c.literal.new.self
    c.in_ok-name.name c.in_ok-name.ensures (sym c.if-not-begins.ensures) (rw (← c.skip.ensures) c.in_ok-literal.ensures))

pub each_arg-returns-in_err-literal : goal.each_arg-returns-in_err-literal
each_arg-returns-in_err-literal t c =
    let p = err_from_is_err_and c.from_residual-in_err-literal.result c.from_residual-in_err-literal.ensures.1 in
    rw (p.1, p.2)
    (Stepped-err ((literal (codes " ")).read c.skip.new.self) _ _ _ c.in_err-literal.ensures
    (λ m f. stops_after (rust c.args.inner).arg 44 (codes " ")
    (arg_suffix c.args.inner) c.loop-names.names c.args.text.now c.loop-names.text c.loop-names.invariant c.arg.new.text m c.in_ok-name.name
    c.in_ok-name.ensures (sym c.if-not-begins.ensures) (ap (literal (codes " ")).read (sym c.skip.ensures) ∙ f)))

pub members-returns-in_err-name : goal.members-returns-in_err-name
members-returns-in_err-name t c =
    let p = err_from_is_err_and c.from_residual.result c.from_residual.ensures.1 in
    rw (p.1, p.2) (Stepped-err ((rust c.args.inner).member.read c.loop-names.text) _ _ _ c.in_err-name.ensures
    (stops_bad (rust c.args.inner).member 32 (codes "+ ")
    (member_suffix c.args.inner) c.loop-names.names c.args.text.now c.loop-names.text c.loop-names.invariant))

pub members-returns-then-not-begins : goal.members-returns-then-not-begins
members-returns-then-not-begins t c =
    rw c.in_ok-push.ensures.last
    (stops_done (rust c.args.inner).member 32 (codes "+ ")
    (member_suffix c.args.inner) c.loop-names.names c.args.text.now c.loop-names.text c.loop-names.invariant c.member.new.text c.in_ok-name.name
    c.in_ok-name.ensures (sym c.if-not-begins.ensures))

pub members-loop-names-smaller : goal.members-loop-names-smaller
members-loop-names-smaller t c =
    turn_shorter (rust c.args.inner).member 32 (codes "+ ")
    (member_suffix c.args.inner) c.loop-names.text c.member.new.text c.literal.new.self c.in_ok-name.name c.in_ok-name.ensures
    (sym c.if-not-begins.ensures) (rw (← c.skip.ensures) c.in_ok-literal.ensures)

pub members-loop-names-preserved : goal.members-loop-names-preserved
members-loop-names-preserved t c =
    rw c.in_ok-push.ensures.last
    (goes_on (rust c.args.inner).member 32 (codes "+ ")
    (member_suffix c.args.inner) c.loop-names.names c.args.text.now c.loop-names.text c.loop-names.invariant c.member.new.text c.literal.new.self
    c.in_ok-name.name c.in_ok-name.ensures (sym c.if-not-begins.ensures) (rw (← c.skip.ensures) c.in_ok-literal.ensures))

pub members-returns-in_err-literal : goal.members-returns-in_err-literal
members-returns-in_err-literal t c =
    let p = err_from_is_err_and c.from_residual-in_err-literal.result c.from_residual-in_err-literal.ensures.1 in
    rw (p.1, p.2)
    (Stepped-err ((literal (codes "+ ")).read c.skip.new.self) _ _ _ c.in_err-literal.ensures
    (λ m f. stops_after (rust c.args.inner).member 32 (codes "+ ")
    (member_suffix c.args.inner) c.loop-names.names c.args.text.now c.loop-names.text c.loop-names.invariant c.member.new.text m c.in_ok-name.name
    c.in_ok-name.ensures (sym c.if-not-begins.ensures) (ap (literal (codes "+ ")).read (sym c.skip.ensures) ∙ f)))

pub segs-returns-in_err-seg : goal.segs-returns-in_err-seg
segs-returns-in_err-seg t c =
    let p = err_from_is_err_and c.from_residual.result c.from_residual.ensures.1 in
    rw (p.1, p.2) (Stepped-err ((seg_of (has_some c.args.inner) (rust c.args.inner).arg).read c.loop-segs.text) _ _ _ c.in_err-seg.ensures
    (stops_bad (seg_of (has_some c.args.inner) (rust c.args.inner).arg) 58 (codes ":")
    (seg_suffix c.args.inner) c.loop-segs.segs c.args.text.now c.loop-segs.text c.loop-segs.invariant))

pub segs-returns-then-not-begins : goal.segs-returns-then-not-begins
segs-returns-then-not-begins t c =
    rw c.in_ok-push.ensures.last
    (stops_done (seg_of (has_some c.args.inner) (rust c.args.inner).arg) 58 (codes ":")
    (seg_suffix c.args.inner) c.loop-segs.segs c.args.text.now c.loop-segs.text c.loop-segs.invariant c.seg.new.text c.in_ok-seg.seg
    c.in_ok-seg.ensures (sym c.if-not-begins.ensures))

pub segs-loop-segs-smaller : goal.segs-loop-segs-smaller
segs-loop-segs-smaller t c =
    turn_shorter (seg_of (has_some c.args.inner) (rust c.args.inner).arg) 58 (codes ":")
    (seg_suffix c.args.inner) c.loop-segs.text c.seg.new.text c.literal.new.self c.in_ok-seg.seg c.in_ok-seg.ensures (sym c.if-not-begins.ensures)
    (rw (← c.skip.ensures) c.in_ok-literal.ensures)

pub segs-loop-segs-preserved : goal.segs-loop-segs-preserved
segs-loop-segs-preserved t c =
    rw c.in_ok-push.ensures.last
    (goes_on (seg_of (has_some c.args.inner) (rust c.args.inner).arg) 58 (codes ":")
    (seg_suffix c.args.inner) c.loop-segs.segs c.args.text.now c.loop-segs.text c.loop-segs.invariant c.seg.new.text c.literal.new.self c.in_ok-seg.seg
    c.in_ok-seg.ensures (sym c.if-not-begins.ensures) (rw (← c.skip.ensures) c.in_ok-literal.ensures))

pub segs-returns-in_err-literal : goal.segs-returns-in_err-literal
segs-returns-in_err-literal t c =
    let p = err_from_is_err_and c.from_residual-in_err-literal.result c.from_residual-in_err-literal.ensures.1 in
    rw (p.1, p.2)
    (Stepped-err ((literal (codes ":")).read c.skip.new.self) _ _ _ c.in_err-literal.ensures
    (λ m f. stops_after (seg_of (has_some c.args.inner) (rust c.args.inner).arg) 58 (codes ":")
    (seg_suffix c.args.inner) c.loop-segs.segs c.args.text.now c.loop-segs.text c.loop-segs.invariant c.seg.new.text m c.in_ok-seg.seg
    c.in_ok-seg.ensures (sym c.if-not-begins.ensures) (ap (literal (codes ":")).read (sym c.skip.ensures) ∙ f)))
