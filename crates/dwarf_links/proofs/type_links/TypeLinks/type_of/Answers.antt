use Rattle.std.proofs.Common.{inl, inr, sym, ap, ◌∙◌}
use Rattle.dwarf_entries.specs.TypeLinks.{type_end, type_in}
use Rattle.dwarf_links.proofs.TypeRules.{endless_is, nowhere_is, reached_is}
use Rattle.dwarf_links.proofs.type_links.TypeLinks.type_of.Goals as goal

pub type_at-requires : goal.type_at-requires
type_at-requires c = (reached_is c.args.die.now.info (type_end c.args.die.now.info c.args.die.now.die) c.in-Reached.entry c.in-Reached.ensures).here ∙ c.requires

pub returns-in-Reached : goal.returns-in-Reached
returns-in-Reached c =
    let r = reached_is c.args.die.now.info (type_end c.args.die.now.info c.args.die.now.die) c.in-Reached.entry c.in-Reached.ensures in
    c.type_at.ensures ∙ ap (type_in c.args.self.now) (sym r.is ∙ ap (λ i. type_end i c.args.die.now.die) c.requires)

pub returns-in-Nowhere : goal.returns-in-Nowhere
returns-in-Nowhere c = elim c.in-Nowhere.is [
  | inl h ↦
      let r = nowhere_is c.args.die.now.info (type_end c.args.die.now.info c.args.die.now.die) (sym h ∙ c.type_end.ensures) in
      ap (type_in c.args.self.now) (sym r ∙ ap (λ i. type_end i c.args.die.now.die) c.requires)
  | inr h ↦
      let r = endless_is c.args.die.now.info (type_end c.args.die.now.info c.args.die.now.die) (sym h ∙ c.type_end.ensures) in
      ap (type_in c.args.self.now) (sym r ∙ ap (λ i. type_end i c.args.die.now.die) c.requires)
]
