-- An entry ends the list, goes on with it, or is invalid.
use Rattle.std.proofs.Common.{◌≡◌, true, false, sym, ◌∙◌}
use Rattle.std.proofs.lemmas.Result.{err_from_is_err_and}
use Rattle.rv_bytes.proofs.Calls.{refusal_on}
use Rattle.dwarf_list_entries.specs.Readers.{read_range_entry}
use Rattle.dwarf_lists.specs.Ranges.{is_end}
use Rattle.dwarf_lists.specs.Readers.{read_range_list}
use Rattle.dwarf_lists.proofs.Loops.{ranges_end, ranges_on, ranges_bad}
use Rattle.dwarf_lists.proofs.ranges.read_zones.Goals as goal

pub returns-in_err-entry : goal.returns-in_err-entry
returns-in_err-entry c =
    let addrs = c.args.addrs.now in
    let whole = read_range_list addrs c.args.base c.args.cut.now.at c.args.cut.now.rest in
    let p = err_from_is_err_and c.from_residual.result c.from_residual.ensures.1 in
    rw (p.1, p.2)
    (refusal_on (read_range_entry addrs c.loop-zones.cut.at c.loop-zones.cut.rest) _ _ _ _ c.in_err-entry.ensures.reads
    (λ r m e. ranges_bad addrs whole c.loop-zones.zones c.loop-zones.base c.loop-zones.cut.at c.loop-zones.cut.rest r m c.loop-zones.invariant e))

pub returns-then-is_end : goal.returns-then-is_end
returns-then-is_end c =
    let addrs = c.args.addrs.now in
    let whole = read_range_list addrs c.args.base c.args.cut.now.at c.args.cut.now.rest in
    let e : is_end c.in_ok-entry.entry ≡ true = sym c.is_end.ensures ∙ c.if-is_end.true in
    ranges_end addrs whole c.loop-zones.zones c.loop-zones.base c.loop-zones.cut.at c.loop-zones.cut.rest c.in_ok-entry.entry c.read_range_entry.new.cut.at c.read_range_entry.new.cut.rest c.loop-zones.invariant c.in_ok-entry.ensures.reads e

pub loop-zones-preserved : goal.loop-zones-preserved
loop-zones-preserved c =
    let addrs = c.args.addrs.now in
    let whole = read_range_list addrs c.args.base c.args.cut.now.at c.args.cut.now.rest in
    let e : is_end c.in_ok-entry.entry ≡ false = sym c.is_end.ensures ∙ c.if-is_end.false in
    rw (c.in_ok-push_zone.ensures, c.bounds_from.ensures, c.base_after-base.ensures)
    (ranges_on addrs whole c.loop-zones.zones c.loop-zones.base c.loop-zones.cut.at c.loop-zones.cut.rest c.in_ok-entry.entry c.read_range_entry.new.cut.at c.read_range_entry.new.cut.rest c.loop-zones.invariant c.in_ok-entry.ensures.reads e)
