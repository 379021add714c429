use Rattle.std.proofs.Common.{◌≡◌, ◌∙◌, true, subst, sym, ap}
use Rattle.dwarf_entries.specs.Codes.{at_type}
use Rattle.dwarf_entries.specs.Dies.{Info}
use Rattle.dwarf_entries.specs.Lookups.{has}
use Rattle.dwarf_entries.specs.PassedOver.{is_structure}
use Rattle.dwarf_entries.specs.Tags.{passes}
use Rattle.dwarf_entries.specs.TypeLinks.{type_end}
use Rattle.dwarf_links.specs.declared.ends.End.{End}
use Rattle.dwarf_links.specs.Ends.{end_in}
use Rattle.dwarf_enums.proofs.Elsewhere.{structure_reached, other_reached, none_reached, none_ends}
use Rattle.dwarf_enums.proofs.rules.structure_rule.Goals as goal

pub returns-then-is_structure : goal.returns-then-is_structure
returns-then-is_structure c =
    let info = c.args.links.now in
    let m = c.args.member.now.die in
    let e = c.in-Reached.entry in
    let typed : has at_type m.entry ≡ true = cc in
    let there : End.Reached e ≡ end_in info (type_end info m) = subst (λ (i : Info). End.Reached e ≡ end_in i (type_end i m)) c.requires c.in-Reached.ensures in
    structure_reached info m e typed there (sym (c.is_structure.ensures ∙ ap (passes is_structure) c.what.ensures) ∙ c.if-is_structure.true)

pub returns-else-is_structure : goal.returns-else-is_structure
returns-else-is_structure c =
    let info = c.args.links.now in
    let m = c.args.member.now.die in
    let e = c.in-Reached.entry in
    let typed : has at_type m.entry ≡ true = cc in
    let there : End.Reached e ≡ end_in info (type_end info m) = subst (λ (i : Info). End.Reached e ≡ end_in i (type_end i m)) c.requires c.in-Reached.ensures in
    c.type_rule.ensures ∙ other_reached info m e typed there (sym (c.is_structure.ensures ∙ ap (passes is_structure) c.what.ensures) ∙ c.if-is_structure.false)

pub returns-in-Nowhere : goal.returns-in-Nowhere
returns-in-Nowhere c =
    let info = c.args.links.now in
    let m = c.args.member.now.die in
    let typed : has at_type m.entry ≡ true = cc in
    c.type_rule-in-Nowhere.ensures ∙ none_reached info m typed (subst (λ (i : Info). End.Nowhere ≡ end_in i (type_end i m)) c.requires c.in-Nowhere.ensures)

pub returns-in-Endless : goal.returns-in-Endless
returns-in-Endless c =
    let info = c.args.links.now in
    let m = c.args.member.now.die in
    let typed : has at_type m.entry ≡ true = cc in
    c.type_rule-in-Endless.ensures ∙ none_ends info m typed (subst (λ (i : Info). End.Endless ≡ end_in i (type_end i m)) c.requires c.in-Endless.ensures)
