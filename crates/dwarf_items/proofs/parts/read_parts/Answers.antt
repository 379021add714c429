use Rattle.std.proofs.Common.{◌∙◌, subst, sym}
use Rattle.dwarf_items.proofs.PartLists.{AreSoFar, all_so_far, none_yet, one_more}
use Rattle.dwarf_items.proofs.parts.read_parts.Goals as goal

pub loop-die-init : goal.loop-die-init
loop-die-init c =
    let info = c.args.dies.now in
    subst (AreSoFar info c.into_iter-die-iterator.result) (sym c.new-parts.ensures) (none_yet info c.into_iter-die-iterator.result (c.into_iter-die-iterator.ensures.into_iter_gives ∙ c.iter-die-items.ensures))

pub loop-die-preserved : goal.loop-die-preserved
loop-die-preserved c =
    let info = c.args.dies.now in
    subst (AreSoFar info c.next.new.self) (sym c.in_ok-push.ensures.last)
    (one_more info c.loop-die.die-iterator c.next.new.self c.in-Some.die c.loop-die.parts c.has_part.result c.loop-die.invariant c.in-Some.ensures.steps c.has_part.ensures)

pub returns : goal.returns
returns c = all_so_far c.args.dies.now c.loop-die.die-iterator c.loop-die.parts c.in-None.ensures.steps.0 c.loop-die.invariant
