use Rattle.dwarf_names.proofs.OwnTexts.{no_text}
use Rattle.dwarf_dies.specs.Attributes.{attribute_kept}
use Rattle.dwarf_names.proofs.own.own_text.Goals as goal

pub returns-in-Err : goal.returns-in-Err
returns-in-Err c =
    no_text c.args.die.now.info c.args.die.now.die (attribute_kept c.in-Some.attribute) c.in-Err.field-0 c.in-Some.ensures c.in-Err.ensures
