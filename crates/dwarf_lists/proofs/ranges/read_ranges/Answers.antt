-- The reader's words carry over from the place on, since it is exact.
use Rattle.std.proofs.Common.{subst}
use Rattle.rv_bytes.specs.Places.{Place}
use Rattle.rv_bytes.specs.Results.{Reads}
use Rattle.rv_bytes.specs.Rules.{outside}
use Rattle.rv_bytes.proofs.Sections.{begins_at, is_fault_at}
use Rattle.dwarf_lists.specs.Ranges.{range_list}
use Rattle.dwarf_lists.specs.Readers.{read_range_list}
use Rattle.dwarf_lists.proofs.ListsExact.{range_list_exact}
use Rattle.dwarf_lists.proofs.ranges.read_ranges.Goals as goal

pub returns-clause-ranges : goal.returns-clause-ranges
returns-clause-ranges c =
    let addrs = c.args.addrs.now in let base = c.args.base in
    let P : Place → Type 0 = λ q. Reads (read_range_list addrs base q.at q.rest) c.read_zones.result c.read_zones.new.cut in
    begins_at (range_list addrs base) (read_range_list addrs base) (range_list_exact addrs base) c.args.section.now c.args.at c.if-at-section.false c.read_zones.new.cut c.read_zones.result (subst P c.from_place-cut.ensures c.read_zones.ensures)

pub returns-clause-refused : goal.returns-clause-refused
returns-clause-refused c =
    let addrs = c.args.addrs.now in let base = c.args.base in
    let P : Place → Type 0 = λ q. Reads (read_range_list addrs base q.at q.rest) c.read_zones.result c.read_zones.new.cut in
    is_fault_at outside (range_list addrs base) (read_range_list addrs base) (range_list_exact addrs base) c.args.section.now c.args.at c.if-at-section.false c.read_zones.new.cut c.read_zones.result (subst P c.from_place-cut.ensures c.read_zones.ensures)
