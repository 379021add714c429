use Rattle.std.proofs.Common.{◌∙◌, sym, ap}
use Rattle.dwarf_scopes.proofs.Above.{fewer_next, hidden_above, hidden_from, hidden_next}
use Rattle.dwarf_scopes.proofs.passed_over.is_hidden.Goals as goal

pub loop-above-init : goal.loop-above-init
loop-above-init c = hidden_above c.args.die.now ∙ ap hidden_from (sym c.parent-above.ensures)

pub loop-above-smaller : goal.loop-above-smaller
loop-above-smaller c = fewer_next c.in-Some.up c.loop-above.above c.parent-above-in-Some.result c.in-Some.is c.parent-above-in-Some.ensures

pub loop-above-preserved : goal.loop-above-preserved
loop-above-preserved c =
    c.loop-above.invariant ∙ ap hidden_from c.in-Some.is
    ∙ hidden_next c.in-Some.up c.parent-above-in-Some.result (cc) c.parent-above-in-Some.ensures
