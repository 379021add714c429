use Rattle.std.proofs.Common.{◌≡◌, ◌∙◌, ℕ, IfOk, Option, ap, subst, sym}
use Rattle.dwarf_entries.specs.Dies.{Die, Info}
use Rattle.dwarf_entries.specs.EnumRules.{length_rule}
use Rattle.dwarf_entries.specs.Enums.{variant_structure}
use Rattle.dwarf_enums.proofs.Beside.{beside_is, beside_none}
use Rattle.dwarf_enums.proofs.lengths.length_rule.Goals as goal

pub rule_of_structure-requires : goal.rule_of_structure-requires
rule_of_structure-requires c = let v = c.args.variant.now in (beside_is v (variant_structure v.info v.die) c.in-Some.structure c.in-Some.ensures).here ∙ c.requires

pub returns-in-Some : goal.returns-in-Some
returns-in-Some c =
    let v = c.args.variant.now in
    let info = c.args.links.now in
    let is = sym (ap (λ (i : Info). variant_structure i v.die) c.requires) ∙ (beside_is v (variant_structure v.info v.die) c.in-Some.structure c.in-Some.ensures).is in
    subst (λ (o : Option Die). IfOk c.rule_of_structure.result (λ (r : Option ℕ). r ≡ length_rule info o)) (sym is) c.rule_of_structure.ensures

pub returns-in-None : goal.returns-in-None
returns-in-None c =
    let v = c.args.variant.now in
    let is = sym (ap (λ (i : Info). variant_structure i v.die) c.requires) ∙ beside_none v (variant_structure v.info v.die) c.in-None.ensures in
    sym (ap (length_rule c.args.links.now) is)
