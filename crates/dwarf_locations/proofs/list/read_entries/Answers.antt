-- An entry ends the list, goes on with it, or is invalid.
use Rattle.std.proofs.Common.{◌≡◌, true, false, sym, ◌∙◌}
use Rattle.std.proofs.lemmas.Result.{err_from_is_err_and}
use Rattle.dwarf_lists.specs.Ranges.{is_end}
use Rattle.dwarf_locations.specs.Steps.{said_seen}
use Rattle.dwarf_locations.proofs.Listed.{breaks, ends, goes_on}
use Rattle.dwarf_locations.proofs.list.read_entries.Goals as goal

pub returns-in_err-said-clause-refused : goal.returns-in_err-said-clause-refused
returns-in_err-said-clause-refused c =
    let l = c.loop-entries in
    let p = err_from_is_err_and c.from_residual.result c.from_residual.ensures.1 in
    rw (p.1, p.2) (breaks c.args.frame c.args.addrs.now c.args.base l.base c.args.cut.now l.cut l.entries c.in_err-said.field-0.0 l.invariant c.in_err-said.ensures.refused)

pub returns-then-is_end-clause-taken : goal.returns-then-is_end-clause-taken
returns-then-is_end-clause-taken c =
    let l = c.loop-entries in let said = said_seen c.in_ok-said.said in
    let e : is_end said.entry ≡ true = sym c.is_end.ensures ∙ c.if-is_end.true in
    ends c.args.frame c.args.addrs.now c.args.base l.base c.args.cut.now l.cut c.read_said.new.cut l.entries said l.invariant c.in_ok-said.ensures.taken e

pub loop-entries-preserved : goal.loop-entries-preserved
loop-entries-preserved c =
    let l = c.loop-entries in let said = said_seen c.in_ok-said.said in
    let e : is_end said.entry ≡ false = sym c.is_end.ensures ∙ c.if-is_end.false in
    rw (c.in_ok-push_entry.ensures, c.bounds_from.ensures, c.base_after-base.ensures)
    (goes_on c.args.frame c.args.addrs.now c.args.base l.base c.args.cut.now l.cut c.read_said.new.cut l.entries said l.invariant c.in_ok-said.ensures.taken e)
