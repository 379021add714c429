use Rattle.std.proofs.Common.{◌∙◌, subst, sym}
use Rattle.dwarf_links.proofs.SetTypes.{AreSoFar, none_yet}
use Rattle.dwarf_links.proofs.set_types.read_types.Goals as goal

pub loop-die-init : goal.loop-die-init
loop-die-init c =
    subst (AreSoFar c.args.dies.now c.into_iter-die-iterator.result) (sym c.new-types.ensures)
    (none_yet c.args.dies.now c.into_iter-die-iterator.result (c.into_iter-die-iterator.ensures.into_iter_gives ∙ c.iter-die-items.ensures))
