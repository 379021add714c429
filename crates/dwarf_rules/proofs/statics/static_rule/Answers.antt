use Rattle.std.proofs.Common.{ap, ◌∙◌, [], ◌∷◌}
use Rattle.dwarf_entries.specs.Codes.{at_name, at_type}
use Rattle.dwarf_entries.specs.Items.{lowest, rule_if}
use Rattle.dwarf_entries.specs.Origins.{bearer_of, is_too_far}
use Rattle.dwarf_entries.specs.Rules.{too_long}
use Rattle.dwarf_rules.specs.Statics.{bearer_rule}
use Rattle.dwarf_rules.proofs.statics.static_rule.Goals as goal

pub returns : goal.returns
returns c =
    let info = c.args.links.now in
    let d = c.args.die.now.die in
    let named = c.rule_if-name_rule.ensures ∙ ap (λ b. rule_if b too_long) (c.is_too_far.ensures ∙ ap (λ i. is_too_far at_name i d) c.requires) in
    c.lowest.ensures ∙ ap (λ r. lowest (r ∷ c.rule_if-name_rule.result ∷ [])) c.bearer_rule.ensures
    ∙ ap (λ r. lowest (bearer_rule info d (bearer_of at_type info d) ∷ r ∷ [])) named
