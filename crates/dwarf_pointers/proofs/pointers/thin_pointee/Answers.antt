use Rattle.std.proofs.Common.{◌≡◌, ◌∙◌, subst}
use Rattle.dwarf_entries.specs.Dies.{Info}
use Rattle.dwarf_entries.specs.TypeLinks.{type_end}
use Rattle.dwarf_links.specs.declared.ends.End.{End}
use Rattle.dwarf_links.specs.Ends.{end_in}
use Rattle.dwarf_links.proofs.TypeRules.{reached_is}
use Rattle.dwarf_pointers.proofs.Pointees.{thin_reached, thin_nowhere, thin_endless}
use Rattle.dwarf_pointers.proofs.pointers.thin_pointee.Goals as goal

pub pointee_at-requires : goal.pointee_at-requires
pointee_at-requires c = let a = c.args.die.now in (reached_is a.info (type_end a.info a.die) c.in-Reached.end c.in-Reached.ensures).here ∙ c.requires

pub returns-in-Reached : goal.returns-in-Reached
returns-in-Reached c =
    let d = c.args.die.now.die in
    c.pointee_at.ensures
    ∙ thin_reached c.args.links.now d c.in-Reached.end (subst (λ (i : Info). End.Reached c.in-Reached.end ≡ end_in i (type_end i d)) c.requires c.in-Reached.ensures)

pub returns-in-Nowhere : goal.returns-in-Nowhere
returns-in-Nowhere c =
    let d = c.args.die.now.die in
    thin_nowhere c.args.links.now d (subst (λ (i : Info). End.Nowhere ≡ end_in i (type_end i d)) c.requires c.in-Nowhere.ensures)

pub returns-in-Endless : goal.returns-in-Endless
returns-in-Endless c =
    let d = c.args.die.now.die in
    thin_endless c.args.links.now d (subst (λ (i : Info). End.Endless ≡ end_in i (type_end i d)) c.requires c.in-Endless.ensures)
