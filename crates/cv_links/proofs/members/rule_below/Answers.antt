use Rattle.std.proofs.Common.{sym, ap, ◌∙◌}
use Rattle.cv_type_defs.specs.FieldLists.{Members}
use Rattle.cv_links.proofs.Chains.{rest_rule, rule_at_end, steps_fall}
use Rattle.cv_links.proofs.members.rule_below.Goals as goal

pub loop-next-preserved : goal.loop-next-preserved
loop-next-preserved c =
    let records = c.args.records.now in
    ap (rest_rule records c.in-Ok.part.list) c.continued-next.ensures ∙ sym (rule_at_end records c.in-Ok.part.list c.in-Ok.part.members.now)
    ∙ ap (λ (m : Members). m.rule) c.in-Ok.ensures.members ∙ ap (rest_rule records c.loop-next.at) (sym c.in-Some.is) ∙ c.loop-next.invariant

pub loop-next-smaller : goal.loop-next-smaller
loop-next-smaller c = steps_fall c.loop-next.at c.in-Ok.part.list c.in-Some.index c.loop-next.next c.continued-next.result c.in-Some.is c.in-Ok.ensures.below

pub returns-in-Err : goal.returns-in-Err
returns-in-Err c = ap (λ (m : Members). m.rule) c.in-Err.ensures.members ∙ ap (rest_rule c.args.records.now c.loop-next.at) (sym c.in-Some.is) ∙ c.loop-next.invariant
