use Rattle.std.proofs.Common.{◌≡◌, ◌∙◌, ◌+◌, ◌<◌, true, length, drop, sym, ap, subst, ◌∷◌, add-one, drop-cons, get_or, arith}
use Rattle.expr_eval.specs.declared.operation.Op.TheVariants.{Const}
use Rattle.expr_eval.specs.Results.{run}
use Rattle.expr_eval.specs.Invariant.{fits, height_after}
use Rattle.expr_eval.proofs.Runs.{run-step, fits-step, value-step}
use Rattle.expr_eval.proofs.machine.eval.Goals as goal

-- one operation, and what is left after it
pub loop-op-preserved : goal.loop-op-preserved
loop-op-preserved c =
    let snap = c.args.snap.now in
    let ops = c.as_slice-list.result.now in
    let stack = c.loop-op.stack in
    let next = c.perform.new.stack in
    let i = c.loop-op.op-index in
    let o = get_or ops i (Const 0) in
    let h : i < length ops = omega arith in
    let parts : drop i ops ≡ o ∷ drop (i + 1) ops = rw (add-one, drop-cons ops i (Const 0)) in
    let e = sym c.if-not-perform.ensures in
    let fit : fits (length stack) (o ∷ drop (i + 1) ops) ≡ true = ap (fits (length stack)) (sym parts) ∙ c.loop-op.invariant.fits in
    record {
      rest = run-step 8 snap o (drop (i + 1) ops) stack next e ∙ ap (λ l. run 8 snap l stack) (sym parts) ∙ c.loop-op.invariant.rest;
      fits = fits-step 8 snap o (drop (i + 1) ops) stack next e fit;
      value = subst (λ h. 0 < h) (ap (height_after (length stack)) parts ∙ sym (value-step 8 snap o (drop (i + 1) ops) stack next e fit)) c.loop-op.invariant.value;
    }
