use Rattle.std.proofs.Common.{◌≡◌, ◌∙◌, ap, subst, sym}
use Rattle.std.proofs.lemmas.Result.{err_from_is_err_and}
use Rattle.dwarf_items.specs.Parts.{are_with_parts}
use Rattle.dwarf_items.proofs.PartLists.{all_left, next}
use Rattle.dwarf_items.proofs.Rows.{all_among, among_more, among_stops, fault_among}
use Rattle.dwarf_items.proofs.entries.check_attributes.Goals as goal

pub loop-die-init : goal.loop-die-init
loop-die-init c =
    let all = c.into_iter-die-iterator.ensures.into_iter_gives ∙ c.iter-die-items.ensures in
    (all_among c.args.dies.now ∙ ap fault_among (sym all), all_left c.args.dies.now c.into_iter-die-iterator.result all)

pub entry_items-requires : goal.entry_items-requires
entry_items-requires c =
    let n = next c.args.dies.now c.loop-die.die-iterator c.next.new.self c.in-Some.die c.loop-die.invariant.1 c.in-Some.ensures.steps in
    c.in_ok-parts.ensures ∙ ap are_with_parts (sym n.here)

pub loop-die-preserved : goal.loop-die-preserved
loop-die-preserved c =
    let n = next c.args.dies.now c.loop-die.die-iterator c.next.new.self c.in-Some.die c.loop-die.invariant.1 c.in-Some.ensures.steps in
    (c.loop-die.invariant.0 ∙ among_more c.loop-die.die-iterator _ _ c.in-Some.ensures.steps c.in_ok-entry_items.ensures, n.others)

pub returns-in_err-entry_items : goal.returns-in_err-entry_items
returns-in_err-entry_items c =
    let p = err_from_is_err_and c.from_residual-in_err-entry_items.result c.from_residual-in_err-entry_items.ensures.1 in
    rw (p.1, p.2) (among_stops c.args.dies.now c.loop-die.die-iterator _ _ _ c.loop-die.invariant.0 c.in-Some.ensures.steps c.in_err-entry_items.ensures)

pub returns : goal.returns
returns c = c.loop-die.invariant.0 ∙ ap fault_among c.in-None.ensures.steps.0
