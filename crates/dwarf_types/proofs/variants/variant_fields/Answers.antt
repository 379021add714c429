use Rattle.std.proofs.Common.{◌≡◌, ◌∙◌, IfOk, IfSome, List, Option, ap, subst, sym}
use Rattle.layout_set.specs.declared.set.Field.{Field}
use Rattle.dwarf_entries.specs.Dies.{Die, Info}
use Rattle.dwarf_entries.specs.Enums.{fields_in, variant_structure}
use Rattle.dwarf_types.specs.Said.{HasFields}
use Rattle.dwarf_enums.proofs.Beside.{beside_is, beside_none}
use Rattle.dwarf_types.proofs.variants.variant_fields.Goals as goal

pub fields_of-requires-clause-here : goal.fields_of-requires-clause-here
fields_of-requires-clause-here c = let v = c.args.variant.now in (beside_is v (variant_structure v.info v.die) c.in-Some.structure c.in-Some.ensures).here ∙ c.requires.here

pub fields_of-requires-clause-fields : goal.fields_of-requires-clause-fields
fields_of-requires-clause-fields c =
    let v = c.args.variant.now in
    let links = c.args.links.now in
    let is = sym (ap (λ (i : Info). variant_structure i v.die) c.requires.here) ∙ (beside_is v (variant_structure v.info v.die) c.in-Some.structure c.in-Some.ensures).is in
    subst (λ (o : Option Die). IfSome o (HasFields links)) is c.requires.fields

pub returns-in-Some : goal.returns-in-Some
returns-in-Some c =
    let v = c.args.variant.now in
    let links = c.args.links.now in
    let is = sym (ap (λ (i : Info). variant_structure i v.die) c.requires.here) ∙ (beside_is v (variant_structure v.info v.die) c.in-Some.structure c.in-Some.ensures).is in
    subst (λ (o : Option Die). IfOk c.fields_of.result (λ (f : List Field). f ≡ fields_in links o)) (sym is) c.fields_of.ensures

pub returns-in-None : goal.returns-in-None
returns-in-None c =
    let v = c.args.variant.now in
    let links = c.args.links.now in
    let is = sym (ap (λ (i : Info). variant_structure i v.die) c.requires.here) ∙ beside_none v (variant_structure v.info v.die) c.in-None.ensures in
    c.new.ensures ∙ sym (ap (fields_in links) is)
