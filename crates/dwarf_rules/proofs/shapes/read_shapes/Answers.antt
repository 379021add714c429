use Rattle.std.proofs.Common.{ap, sym, subst, ◌∙◌, map}
use Rattle.dwarf_entries.specs.Dies.{Info}
use Rattle.dwarf_dies.specs.Handles.{among}
use Rattle.dwarf_rules.proofs.ShapeLists.{AreSoFar, all_so_far, next, none_yet, one_more}
use Rattle.dwarf_rules.proofs.shapes.read_shapes.Goals as goal

pub loop-die-init : goal.loop-die-init
loop-die-init c =
    let info = c.args.links.now in
    let all = c.into_iter-die-iterator.ensures.into_iter_gives ∙ c.iter-die-items.ensures ∙ ap (λ (i : Info). map (among i) i.dies) c.dies-dies.ensures in
    subst (AreSoFar info c.into_iter-die-iterator.result) (sym c.new-shapes.ensures) (none_yet info c.into_iter-die-iterator.result all)

pub shape_of-requires-in-loop-die : goal.shape_of-requires-in-loop-die
shape_of-requires-in-loop-die c = (next c.args.links.now c.loop-die.die-iterator c.next.new.self c.in-Some.die c.loop-die.shapes c.loop-die.invariant c.in-Some.ensures.steps).here

pub loop-die-preserved : goal.loop-die-preserved
loop-die-preserved c =
    let info = c.args.links.now in
    let n = next info c.loop-die.die-iterator c.next.new.self c.in-Some.die c.loop-die.shapes c.loop-die.invariant c.in-Some.ensures.steps in
    subst (AreSoFar info c.next.new.self) (sym c.in_ok-push.ensures.last)
    (one_more info c.next.new.self c.in-Some.die c.loop-die.shapes c.in_ok-shape.shape n c.in_ok-shape.ensures)

pub returns : goal.returns
returns c = all_so_far c.args.links.now c.loop-die.die-iterator c.loop-die.shapes c.in-None.ensures.steps.0 c.loop-die.invariant
