use Rattle.std.proofs.Common.{◌∙◌, sym, ap}
use Rattle.dwarf_scopes.proofs.Above.{fewer_next}
use Rattle.dwarf_zones.proofs.WaysUp.{root_above, root_by}
use Rattle.dwarf_zones.proofs.units.root_of.Goals as goal

pub loop-above-init : goal.loop-above-init
loop-above-init c = root_above c.args.die.now ∙ ap (root_by c.args.die.now) (sym c.parent-above.ensures) ∙ ap (λ r. root_by r c.parent-above.result) (sym c.again-root.ensures)

pub loop-above-smaller : goal.loop-above-smaller
loop-above-smaller c = fewer_next c.in-Some.up c.loop-above.above c.parent-above-in-Some.result c.in-Some.is c.parent-above-in-Some.ensures

pub loop-above-preserved : goal.loop-above-preserved
loop-above-preserved c =
    c.loop-above.invariant ∙ ap (root_by c.loop-above.root) c.in-Some.is ∙ root_above c.in-Some.up
    ∙ ap (root_by c.in-Some.up) (sym c.parent-above-in-Some.ensures)
