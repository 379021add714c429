use Rattle.std.proofs.Common.{not, ap, sym, ◌∙◌}
use Rattle.dwarf_rules.specs.Shapes.{is_fat}
use Rattle.dwarf_rules.proofs.ShapeLists.{params_there}
use Rattle.dwarf_rules.proofs.parts.has_params.Goals as goal

pub returns-then-is_type_of_set : goal.returns-then-is_type_of_set
returns-then-is_type_of_set c =
    let a = c.args.die.now in
    ap not (c.is_fat.ensures ∙ ap is_fat c.of.ensures) ∙ params_there a.info a.die (sym c.is_type_of_set.ensures ∙ c.if-is_type_of_set.true)
