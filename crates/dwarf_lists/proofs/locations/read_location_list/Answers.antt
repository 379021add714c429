-- The reader's words carry over from the place on, since it is exact.
use Rattle.std.proofs.Common.{map, subst}
use Rattle.rv_bytes.specs.Places.{Place}
use Rattle.rv_bytes.specs.Results.{ReadsBy}
use Rattle.rv_bytes.specs.Rules.{outside}
use Rattle.dwarf_lists.specs.Locations.{location_seen, location_list}
use Rattle.dwarf_lists.specs.Readers.{read_location_list}
use Rattle.dwarf_lists.proofs.Answered.{begins_by, is_fault_by}
use Rattle.dwarf_lists.proofs.ListsExact.{location_list_exact}
use Rattle.dwarf_lists.proofs.locations.read_location_list.Goals as goal

pub returns-clause-locations : goal.returns-clause-locations
returns-clause-locations c =
    let addrs = c.args.addrs.now in let base = c.args.base in
    let P : Place → Type 0 = λ q. ReadsBy (map location_seen) (read_location_list addrs base q.at q.rest) c.read_locations.result c.read_locations.new.cut in
    begins_by (location_list addrs base) (read_location_list addrs base) (location_list_exact addrs base) (map location_seen) c.args.section.now c.args.at c.if-at-section.false c.read_locations.new.cut c.read_locations.result (subst P c.from_place-cut.ensures c.read_locations.ensures)

pub returns-clause-refused : goal.returns-clause-refused
returns-clause-refused c =
    let addrs = c.args.addrs.now in let base = c.args.base in
    let P : Place → Type 0 = λ q. ReadsBy (map location_seen) (read_location_list addrs base q.at q.rest) c.read_locations.result c.read_locations.new.cut in
    is_fault_by outside (location_list addrs base) (read_location_list addrs base) (location_list_exact addrs base) (map location_seen) c.args.section.now c.args.at c.if-at-section.false c.read_locations.new.cut c.read_locations.result (subst P c.from_place-cut.ensures c.read_locations.ensures)
