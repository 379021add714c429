use Rattle.std.proofs.lemmas.Result.{err_from_is_err_and}
use Rattle.std.proofs.Common.{arith}
use Rattle.dwarf_entries.specs.AttributeItems.{around_items}
use Rattle.dwarf_items.specs.Scopes.{scope_items}
use Rattle.dwarf_items.proofs.Faults.{err_first, ok_first}
use Rattle.dwarf_items.proofs.NamesAround.{around_is, fewer_around, nothing_around}
use Rattle.dwarf_items.proofs.around.+around_items.Goals as goal

pub around_items-requires : goal.around_items-requires
around_items-requires t c =
    let fewer = fewer_around c.args.die.now c.in-Some.up c.in-Some.ensures in
    (omega (arith, fewer, c.decreases), tt)

pub returns-in_err-around_items-in-Some : goal.returns-in_err-around_items-in-Some
returns-in_err-around_items-in-Some t c =
    let u = c.in-Some.up in
    let p = err_from_is_err_and c.from_residual.result c.from_residual.ensures.1 in
    rw (p.1, p.2) (err_first _ (around_items u.info u.die) (scope_items u.info u.die) _ (around_is c.args.die.now u c.in-Some.ensures) c.in_err-around_items-in-Some.ensures)

pub returns-in_ok-around_items-in-Some : goal.returns-in_ok-around_items-in-Some
returns-in_ok-around_items-in-Some t c =
    let u = c.in-Some.up in
    ok_first _ (around_items u.info u.die) (scope_items u.info u.die) c.scope_items.result (around_is c.args.die.now u c.in-Some.ensures) c.in_ok-around_items-in-Some.ensures c.scope_items.ensures

pub returns-in-None : goal.returns-in-None
returns-in-None t c = nothing_around c.args.die.now c.in-None.ensures
