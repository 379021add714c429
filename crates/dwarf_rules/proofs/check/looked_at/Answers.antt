use Rattle.std.proofs.Common.{ap, ◌∙◌}
use Rattle.std.proofs.lemmas.Result.{err_from_is_err_and}
use Rattle.dwarf_rules.specs.Counts.{counts_of}
use Rattle.dwarf_rules.proofs.EntryRules.{low_is, same_fault}
use Rattle.dwarf_rules.proofs.check.looked_at.Goals as goal

pub returns-in_err-answer : goal.returns-in_err-answer
returns-in_err-answer c =
    let info = c.args.links.now in
    let d = c.args.die.now.die in
    let p = err_from_is_err_and c.from_residual-in_err-answer.result c.from_residual-in_err-answer.ensures.1 in
    let own = c.in_ok-own.ensures.counts ∙ ap (λ i. counts_of i d) c.requires.links in
    let low = low_is info d c.args.counts_before c.in_ok-own.own c.with-after.result c.lowest.result c.limit_rule.result c.in_ok-rule.rule c.requires.looked_at c.requires.before own c.with-after.ensures c.limit_rule.ensures
    c.in_ok-rule.ensures c.lowest.ensures in
    rw (p.1, p.2) (same_fault _ _ _ _ _ c.offset.ensures low c.in_err-answer.ensures)
