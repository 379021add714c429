use Rattle.std.proofs.Common.{◌∙◌, sym, subst, arith}
use Rattle.names.specs.Scan.{StepsOver}
use Rattle.names.proofs.Scans.{over_bad, over_inside, over_none, over_lead}
use Rattle.names.proofs.word.step.Goals as goal

pub returns-then-not-is_between : goal.returns-then-not-is_between
returns-then-not-is_between c =
    let s = c.args.scan in λ text.
    over_bad s.first s.room s.count s.low s.high c.args.c text c.if-scan-gt0.true (sym c.is_between.ensures ∙ c.if-not-is_between.true)

pub returns-then-scan-gt0 : goal.returns-then-scan-gt0
returns-then-scan-gt0 c =
    let s = c.args.scan in λ text.
    over_inside s.first s.room s.count s.low s.high c.args.c text c.if-scan-gt0.true (sym c.is_between.ensures ∙ c.if-not-is_between.false)

pub returns-in-None : goal.returns-in-None
returns-in-None c =
    let s = c.args.scan in λ text.
    over_none s.first s.room s.count s.low s.high c.args.c text (omega (arith, c.if-scan-gt0.false)) (sym c.lead_of.ensures ∙ c.in-None.is)

pub returns-in-Some : goal.returns-in-Some
returns-in-Some c =
    subst (StepsOver c.args.scan c.args.c) (sym c.begun.ensures)
    (over_lead c.args.scan c.args.c c.in-Some.next (omega (arith, c.if-scan-gt0.false)) (sym c.lead_of.ensures ∙ c.in-Some.is))
