use Rattle.std.proofs.Common.{◌≡◌, ◌∙◌, ℕ, None, Option, ap, subst}
use Rattle.dwarf_entries.specs.Dies.{Info}
use Rattle.dwarf_entries.specs.Items.{lower, rule_if}
use Rattle.dwarf_entries.specs.Rules.{no_type}
use Rattle.dwarf_entries.specs.TypeLinks.{type_end, typed_rule}
use Rattle.dwarf_links.specs.declared.ends.End.{End}
use Rattle.dwarf_links.specs.Ends.{end_in}
use Rattle.dwarf_links.proofs.TypeRules.{reached_is}
use Rattle.dwarf_pointers.proofs.Integers.{integer_reached, integer_nowhere, integer_endless}
use Rattle.dwarf_pointers.proofs.enumerations.integer_rule.Goals as goal

pub is_no_integer-requires : goal.is_no_integer-requires
is_no_integer-requires c = let a = c.args.die.now in (reached_is a.info (type_end a.info a.die) c.in-Reached.end c.in-Reached.ensures).here ∙ c.requires

pub returns-in-Reached : goal.returns-in-Reached
returns-in-Reached c =
    let info = c.args.links.now in
    let d = c.args.die.now.die in
    ap (λ (r : Option ℕ). lower (typed_rule info d) (lower r None)) (c.rule_if.ensures ∙ ap (λ b. rule_if b no_type) c.is_no_integer.ensures)
    ∙ integer_reached info d c.in-Reached.end (subst (λ (i : Info). End.Reached c.in-Reached.end ≡ end_in i (type_end i d)) c.requires c.in-Reached.ensures)

pub returns-in-Nowhere : goal.returns-in-Nowhere
returns-in-Nowhere c =
    let d = c.args.die.now.die in
    integer_nowhere c.args.links.now d (subst (λ (i : Info). End.Nowhere ≡ end_in i (type_end i d)) c.requires c.in-Nowhere.ensures)

pub returns-in-Endless : goal.returns-in-Endless
returns-in-Endless c =
    let d = c.args.die.now.die in
    integer_endless c.args.links.now d (subst (λ (i : Info). End.Endless ≡ end_in i (type_end i d)) c.requires c.in-Endless.ensures)
