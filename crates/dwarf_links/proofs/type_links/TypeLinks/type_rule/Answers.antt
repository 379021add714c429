use Rattle.std.proofs.Common.{is_some, not, sym, ap, ◌∙◌}
use Rattle.dwarf_entries.specs.Items.{rule_if}
use Rattle.dwarf_entries.specs.Rules.{no_type}
use Rattle.dwarf_entries.specs.TypeLinks.{end_rule, type_end}
use Rattle.dwarf_links.proofs.TypeRules.{endless_is, none_is, nowhere_is, reached_is, there_is}
use Rattle.dwarf_links.proofs.type_links.TypeLinks.type_rule.Goals as goal

pub type_at-requires : goal.type_at-requires
type_at-requires c = (reached_is c.args.die.now.info (type_end c.args.die.now.info c.args.die.now.die) c.in-Reached.entry c.in-Reached.ensures).here ∙ c.requires

pub returns-in-Reached : goal.returns-in-Reached
returns-in-Reached c =
    let r = reached_is c.args.die.now.info (type_end c.args.die.now.info c.args.die.now.die) c.in-Reached.entry c.in-Reached.ensures in
    c.rule_if.ensures ∙ ap (λ b. rule_if b no_type) (none_is c.type_at.result c.is_none.result c.is_none.ensures ∙ ap (λ o. not (is_some o)) c.type_at.ensures) ∙ there_is c.args.self.now c.in-Reached.entry.die
    ∙ ap (end_rule c.args.self.now) (sym r.is ∙ ap (λ i. type_end i c.args.die.now.die) c.requires)

pub returns-in-Nowhere : goal.returns-in-Nowhere
returns-in-Nowhere c =
    let r = nowhere_is c.args.die.now.info (type_end c.args.die.now.info c.args.die.now.die) (sym c.in-Nowhere.is ∙ c.type_end.ensures) in
    ap (end_rule c.args.self.now) (sym r ∙ ap (λ i. type_end i c.args.die.now.die) c.requires)

pub returns-in-Endless : goal.returns-in-Endless
returns-in-Endless c =
    let r = endless_is c.args.die.now.info (type_end c.args.die.now.info c.args.die.now.die) (sym c.in-Endless.is ∙ c.type_end.ensures) in
    ap (end_rule c.args.self.now) (sym r ∙ ap (λ i. type_end i c.args.die.now.die) c.requires)
