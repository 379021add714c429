use Rattle.std.proofs.Common.{◌≡◌, ◌∙◌, true, false, not, is_some, inl, inr, ap, sym, subst, arith}
use Rattle.dwarf_entries.specs.Dies.{Info, what}
use Rattle.dwarf_entries.specs.PassedOver.{is_structure}
use Rattle.dwarf_entries.specs.Tags.{passes}
use Rattle.dwarf_entries.specs.TypeLinks.{type_at, type_end}
use Rattle.dwarf_links.specs.declared.ends.End.{End}
use Rattle.dwarf_links.specs.Ends.{end_in}
use Rattle.dwarf_links.proofs.TypeRules.{reached_is}
use Rattle.dwarf_enums.proofs.Elsewhere.{elsewhere, not_elsewhere, nowhere, endless}
use Rattle.dwarf_enums.proofs.rules.leads_elsewhere.Goals as goal

pub type_at-requires : goal.type_at-requires
type_at-requires c = let a = c.args.member.now in (reached_is a.info (type_end a.info a.die) c.in-Reached.entry c.in-Reached.ensures).here ∙ c.requires

pub returns-then-not-is_structure : goal.returns-then-not-is_structure
returns-then-not-is_structure c =
    let info = c.args.links.now in
    let m = c.args.member.now.die in
    let e = c.in-Reached.entry in
    let h : End.Reached e ≡ end_in info (type_end info m) = subst (λ (i : Info). End.Reached e ≡ end_in i (type_end i m)) c.requires c.in-Reached.ensures in
    let g : c.is_structure.result ≡ passes is_structure (what e.die) = cc in
    let off : c.is_structure.result ≡ false = grind arith in
    let n : c.is_some.result ≡ is_some (type_at info e.die (what e.die)) = c.is_some.ensures ∙ ap is_some c.type_at.ensures in
    elsewhere info m e c.is_structure.result c.is_some.result h g off n

pub returns-else-not-is_structure : goal.returns-else-not-is_structure
returns-else-not-is_structure c =
    let info = c.args.links.now in
    let m = c.args.member.now.die in
    let e = c.in-Reached.entry in
    let h : End.Reached e ≡ end_in info (type_end info m) = subst (λ (i : Info). End.Reached e ≡ end_in i (type_end i m)) c.requires c.in-Reached.ensures in
    let yes : c.is_structure.result ≡ true = grind arith in
    let g : true ≡ passes is_structure (what e.die) = cc in
    ap not yes ∙ not_elsewhere info m e h g

pub returns-in-Nowhere : goal.returns-in-Nowhere
returns-in-Nowhere c =
    let m = c.args.member.now.die in
    elim c.in-Nowhere.is [
      | inl h ↦ nowhere c.args.links.now m (subst (λ (i : Info). End.Nowhere ≡ end_in i (type_end i m)) c.requires (sym h ∙ c.type_end.ensures))
      | inr h ↦ endless c.args.links.now m (subst (λ (i : Info). End.Endless ≡ end_in i (type_end i m)) c.requires (sym h ∙ c.type_end.ensures))
    ]
