use Rattle.std.proofs.Common.{Some, ap, sym, ◌∙◌, ℕ}
use Rattle.dwarf_entries.specs.Codes.{at_type}
use Rattle.dwarf_entries.specs.Origins.{bearer_of}
use Rattle.dwarf_rules.specs.Statics.{bearer_rule, lost_rule}
use Rattle.dwarf_rules.proofs.Above.{none_is, there_is}
use Rattle.dwarf_rules.proofs.statics.bearer_rule.Goals as goal

pub type_rule-requires : goal.type_rule-requires
type_rule-requires c =
    let a = c.args.die.now in
    (there_is a.info (bearer_of at_type a.info a.die) c.in-Some.bearer c.in-Some.ensures).here ∙ c.requires

pub returns-in-Some : goal.returns-in-Some
returns-in-Some c =
    let a = c.args.die.now in
    let info = c.args.links.now in
    let is = (there_is a.info (bearer_of at_type a.info a.die) c.in-Some.bearer c.in-Some.ensures).is in
    c.type_rule.ensures ∙ sym (ap (bearer_rule info a.die) (sym (ap (λ i. bearer_of at_type i a.die) c.requires) ∙ is))

pub returns-in-None : goal.returns-in-None
returns-in-None c =
    let a = c.args.die.now in
    let info = c.args.links.now in
    let is = none_is a.info (bearer_of at_type a.info a.die) c.in-None.ensures in
    ap (λ (n : ℕ). Some n) (c.lost_rule.ensures ∙ ap (λ i. lost_rule i a.die) c.requires)
    ∙ sym (ap (bearer_rule info a.die) (sym (ap (λ i. bearer_of at_type i a.die) c.requires) ∙ is))
