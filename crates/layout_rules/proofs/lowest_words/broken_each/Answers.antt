use Rattle.std.proofs.Common.{◌∙◌, ap}
use Rattle.layout_rules.specs.LineRules.{lower, lowest_of, broken_op}
use Rattle.layout_words.specs.Forms.{words, left_words}
use Rattle.layout_words.specs.Steps.{lent}
use Rattle.layout_rules.proofs.LowestWords.{lowest_step}
use Rattle.layout_rules.proofs.lowest_words.broken_each.Goals as goal

pub loop-left-preserved : goal.loop-left-preserved
loop-left-preserved c =
    let low = c.loop-left.lowest in
    let here = ap (λ l. lower low (lowest_of broken_op (left_words (lent l)))) c.in-Some.is in
    let known = c.loop-left.invariant in
    lowest_step broken_op low c.lower-lowest.result (lowest_of broken_op (words c.args.line.now)) c.in-Some.line.now c.cut.result.0.now (lent c.cut.result.1)
    c.cut.ensures.first c.cut.ensures.left (c.lower-lowest.ensures ∙ ap (lower c.loop-left.lowest) c.broken_op.ensures) (rw c.in-Some.is at known)
