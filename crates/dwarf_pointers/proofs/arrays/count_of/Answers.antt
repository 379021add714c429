use Rattle.std.proofs.Common.{◌∙◌, false, None, ap}
use Rattle.dwarf_pointers.proofs.ChildLists.{count_from, count_is}
use Rattle.dwarf_pointers.proofs.arrays.count_of.Goals as goal

pub loop-child-init : goal.loop-child-init
loop-child-init c = ap (count_from false None) (c.into_iter-child-iterator.ensures.into_iter_gives ∙ c.children-child-items.ensures) ∙ count_is c.args.die.now
