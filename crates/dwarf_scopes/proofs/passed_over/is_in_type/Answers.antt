use Rattle.std.proofs.Common.{◌∙◌, sym, ap}
use Rattle.dwarf_scopes.proofs.Above.{fewer_next, type_above, type_from, type_next}
use Rattle.dwarf_scopes.proofs.passed_over.is_in_type.Goals as goal

pub loop-above-init : goal.loop-above-init
loop-above-init c = type_above c.args.die.now ∙ ap type_from (sym c.parent-above.ensures)

pub loop-above-smaller : goal.loop-above-smaller
loop-above-smaller c = fewer_next c.in-Some.up c.loop-above.above c.parent-above-in-Some.result c.in-Some.is c.parent-above-in-Some.ensures

pub loop-above-preserved : goal.loop-above-preserved
loop-above-preserved c =
    c.loop-above.invariant ∙ ap type_from c.in-Some.is
    ∙ type_next c.in-Some.up c.parent-above-in-Some.result (cc) (cc) c.parent-above-in-Some.ensures
