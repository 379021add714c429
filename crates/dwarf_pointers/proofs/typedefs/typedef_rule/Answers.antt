use Rattle.std.proofs.Common.{◌≡◌, ◌∙◌, not, true, ap}
use Rattle.dwarf_entries.specs.Codes.{at_type}
use Rattle.dwarf_entries.specs.Items.{rule_if}
use Rattle.dwarf_entries.specs.Lookups.{has}
use Rattle.dwarf_entries.specs.Rules.{no_type}
use Rattle.dwarf_entries.specs.Tags.{passes, is_type}
use Rattle.dwarf_pointers.proofs.Links.{typedef_reached, typedef_nowhere, typedef_endless}
use Rattle.dwarf_pointers.proofs.typedefs.typedef_rule.Goals as goal

pub returns-in-Reached : goal.returns-in-Reached
returns-in-Reached c =
    let a = c.args.die.now in
    let typed : has at_type a.die.entry ≡ true = cc in
    c.rule_if.ensures ∙ ap (λ b. rule_if (not b) no_type) (c.is_type.ensures ∙ ap (passes is_type) c.what.ensures)
    ∙ typedef_reached a.info a.die c.in-Reached.end c.in-Reached.ensures typed

pub returns-in-Nowhere : goal.returns-in-Nowhere
returns-in-Nowhere c =
    let a = c.args.die.now in
    let typed : has at_type a.die.entry ≡ true = cc in
    typedef_nowhere a.info a.die c.in-Nowhere.ensures typed

pub returns-in-Endless : goal.returns-in-Endless
returns-in-Endless c =
    let a = c.args.die.now in
    let typed : has at_type a.die.entry ≡ true = cc in
    typedef_endless a.info a.die c.in-Endless.ensures typed
