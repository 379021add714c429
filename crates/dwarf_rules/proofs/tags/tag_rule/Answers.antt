use Rattle.std.proofs.Common.{◌≡◌, Some, ap, sym, ◌∙◌}
use Rattle.dwarf_entries.specs.Dies.{what}
use Rattle.dwarf_entries.specs.PassC.{tag_rule, typedef_rule}
use Rattle.dwarf_entries.specs.declared.tag.Tag.{Tag}
use Rattle.dwarf_rules.proofs.tags.tag_rule.Goals as goal

pub returns-in-Some-Typedef : goal.returns-in-Some-Typedef
returns-in-Some-Typedef c =
    let info = c.args.links.now in
    let d = c.args.die.now.die in
    let is : what d ≡ Some Tag.Typedef = cc in
    c.typedef_rule.ensures ∙ ap (λ i. typedef_rule i d) c.requires.links ∙ sym (ap (tag_rule info d) is)
