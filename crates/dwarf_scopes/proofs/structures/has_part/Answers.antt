use Rattle.std.proofs.Common.{◌∙◌, sym, ap}
use Rattle.dwarf_scopes.proofs.Parts.{part_among, part_below}
use Rattle.dwarf_scopes.proofs.structures.has_part.Goals as goal

pub loop-child-init : goal.loop-child-init
loop-child-init c = part_below c.args.die.now ∙ ap part_among (sym c.children-child-items.ensures ∙ sym c.into_iter-child-iterator.ensures.into_iter_gives)
