use Rattle.std.proofs.Common.{subst}
use Rattle.std.proofs.lemmas.Result.{err_from_is_err_and}
use Rattle.dwarf_dies.specs.Laws.{AreLinked}
use Rattle.dwarf_rules.proofs.Checked.{counts_before, more_done, next, stops}
use Rattle.dwarf_rules.proofs.check.check_entries.Goals as goal

pub entry-requires-clause-links : goal.entry-requires-clause-links
entry-requires-clause-links c =
    (next c.args.links.now c.loop-die.die-iterator c.next.new.self c.in-Some.die c.loop-die.counts c.loop-die.invariant c.in-Some.ensures.steps).here

pub entry-requires-clause-before : goal.entry-requires-clause-before
entry-requires-clause-before c =
    let n = next c.args.links.now c.loop-die.die-iterator c.next.new.self c.in-Some.die c.loop-die.counts c.loop-die.invariant c.in-Some.ensures.steps in
    counts_before c.args.links.now c.next.new.self c.in-Some.die c.loop-die.counts (subst AreLinked c.dies-dies.ensures c.len-are_few.ensures.laws) n

pub returns-in_err-counts : goal.returns-in_err-counts
returns-in_err-counts c =
    let n = next c.args.links.now c.loop-die.die-iterator c.next.new.self c.in-Some.die c.loop-die.counts c.loop-die.invariant c.in-Some.ensures.steps in
    let p = err_from_is_err_and c.from_residual-in_err-counts.result c.from_residual-in_err-counts.ensures.1 in
    rw (p.1, p.2) (stops c.args.links.now c.next.new.self c.in-Some.die c.loop-die.counts _ n c.in_err-counts.ensures)

pub loop-die-preserved : goal.loop-die-preserved
loop-die-preserved c =
    let n = next c.args.links.now c.loop-die.die-iterator c.next.new.self c.in-Some.die c.loop-die.counts c.loop-die.invariant c.in-Some.ensures.steps in
    more_done c.args.links.now c.next.new.self c.in-Some.die c.loop-die.counts c.in_ok-counts.counts n c.in_ok-counts.ensures
