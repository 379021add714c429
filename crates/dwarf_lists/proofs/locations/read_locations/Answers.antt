-- An entry ends the list, goes on with it, or is invalid.
use Rattle.std.proofs.Common.{◌≡◌, true, false, sym, ◌∙◌, map}
use Rattle.std.proofs.lemmas.Result.{err_from_is_err_and}
use Rattle.dwarf_list_entries.specs.Locations.{entry_seen}
use Rattle.dwarf_list_entries.specs.Readers.{read_location_entry}
use Rattle.dwarf_lists.specs.Ranges.{is_end}
use Rattle.dwarf_lists.specs.Locations.{location_seen}
use Rattle.dwarf_lists.specs.Readers.{read_location_list}
use Rattle.dwarf_lists.proofs.Answered.{refused_on}
use Rattle.dwarf_lists.proofs.Loops.{locations_end, locations_on, locations_bad}
use Rattle.dwarf_lists.proofs.locations.read_locations.Goals as goal

pub returns-in_err-entry : goal.returns-in_err-entry
returns-in_err-entry c =
    let addrs = c.args.addrs.now in
    let whole = read_location_list addrs c.args.base c.args.cut.now.at c.args.cut.now.rest in
    let acc = map location_seen c.loop-locations.locations in
    let p = err_from_is_err_and c.from_residual.result c.from_residual.ensures.1 in
    rw (p.1, p.2)
    (refused_on (read_location_entry addrs c.loop-locations.cut.at c.loop-locations.cut.rest) _ entry_seen (map location_seen) _ _ _ c.in_err-entry.ensures.reads
    (λ r m e. locations_bad addrs whole acc c.loop-locations.base c.loop-locations.cut.at c.loop-locations.cut.rest r m c.loop-locations.invariant e))

pub returns-then-is_end : goal.returns-then-is_end
returns-then-is_end c =
    let addrs = c.args.addrs.now in
    let whole = read_location_list addrs c.args.base c.args.cut.now.at c.args.cut.now.rest in
    let acc = map location_seen c.loop-locations.locations in
    let entry = entry_seen c.in_ok-entry.entry in
    let e : is_end entry.entry ≡ true = sym c.is_end.ensures ∙ c.if-is_end.true in
    locations_end addrs whole acc c.loop-locations.base c.loop-locations.cut.at c.loop-locations.cut.rest entry c.read_location_entry.new.cut.at c.read_location_entry.new.cut.rest c.loop-locations.invariant c.in_ok-entry.ensures.reads e

pub loop-locations-preserved : goal.loop-locations-preserved
loop-locations-preserved c =
    let addrs = c.args.addrs.now in
    let whole = read_location_list addrs c.args.base c.args.cut.now.at c.args.cut.now.rest in
    let acc = map location_seen c.loop-locations.locations in
    let entry = entry_seen c.in_ok-entry.entry in
    let e : is_end entry.entry ≡ false = sym c.is_end.ensures ∙ c.if-is_end.false in
    rw (c.in_ok-push_location.ensures, c.base_after-base.ensures)
    (locations_on addrs whole acc c.loop-locations.base c.loop-locations.cut.at c.loop-locations.cut.rest entry c.read_location_entry.new.cut.at c.read_location_entry.new.cut.rest c.loop-locations.invariant c.in_ok-entry.ensures.reads e)
