use Rattle.std.proofs.Common.{◌∙◌, sym, ap}
use Rattle.dwarf_scopes.proofs.Above.{fewer_next}
use Rattle.dwarf_zones.specs.Scopes.{is_scope}
use Rattle.dwarf_zones.proofs.WaysUp.{nearest_above, nearest_from, nearest_next}
use Rattle.dwarf_zones.proofs.scopes.scope_of.Goals as goal

pub loop-above-init : goal.loop-above-init
loop-above-init c = nearest_above is_scope c.args.die.now ∙ ap (nearest_from is_scope) (sym c.parent-above.ensures)

pub loop-above-smaller : goal.loop-above-smaller
loop-above-smaller c = fewer_next c.in-Some.up c.loop-above.above c.parent-above-in-Some.result c.in-Some.is c.parent-above-in-Some.ensures

pub loop-above-preserved : goal.loop-above-preserved
loop-above-preserved c =
    c.loop-above.invariant ∙ ap (nearest_from is_scope) c.in-Some.is
    ∙ nearest_next is_scope c.in-Some.up c.parent-above-in-Some.result (cc) c.parent-above-in-Some.ensures
