use Rattle.std.proofs.Common.{◌∙◌, ◌≤◌, arith}
use Rattle.dbg_command.proofs.Bounded.{number_some, number_of_none, number_outside}
use Rattle.dbg_command.proofs.form.number_from.Goals as goal
use Rattle.dbg_command.proofs.form.number_from.Goals.{else-from-n-via-then-from-n+else-n-from, else-from-n-via-else-from-n}

pub returns-in_err-n-clause-value : goal.returns-in_err-n-clause-value
returns-in_err-n-clause-value c =
    c.from_residual.ensures ∙ number_of_none c.args.least c.args.most c.args.word.now (omega (arith, c.ranges.most.fits)) c.in_err-n.ensures

pub returns-then-n-from-clause-value : goal.returns-then-n-from-clause-value
returns-then-n-from-clause-value c =
    number_some c.args.least c.args.most c.args.word.now c.in_ok-n.n
    (omega (arith, c.from.ensures, c.if-from-n.true)) (omega (arith, c.from-then-from-n.ensures, c.if-n-from.true)) c.in_ok-n.ensures

pub returns-else-from-n-clause-value : goal.returns-else-from-n-clause-value
returns-else-from-n-clause-value c =
    let a = c.args in
    let outside : ¬ ((a.least ≤ c.in_ok-n.n) × (c.in_ok-n.n ≤ a.most)) = elim c.else-from-n.branch [
      | else-from-n-via-then-from-n+else-n-from w ↦ λ h. omega (arith, h.1, w.from-then-from-n.ensures, w.if-n-from.false)
      | else-from-n-via-else-from-n w ↦ λ h. omega (arith, h.0, c.from.ensures, w.if-from-n.false)
    ] in
    number_outside a.least a.most a.word.now c.in_ok-n.n (omega (arith, c.ranges.most.fits)) c.in_ok-n.ensures outside
