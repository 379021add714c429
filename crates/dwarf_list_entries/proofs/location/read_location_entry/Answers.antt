-- The reader's words carry over, since it is exact.
use Rattle.rv_bytes.proofs.Calls.{taken_by, refused_by}
use Rattle.dwarf_list_entries.specs.Locations.{entry_seen, location_entry}
use Rattle.dwarf_list_entries.specs.Readers.{read_location_entry}
use Rattle.dwarf_list_entries.proofs.EntriesExact.{location_entry_exact}
use Rattle.dwarf_list_entries.proofs.location.read_location_entry.Goals as goal

pub returns-clause-taken : goal.returns-clause-taken
returns-clause-taken c =
    let addrs = c.args.addrs.now in
    taken_by (location_entry addrs) (read_location_entry addrs) (location_entry_exact addrs) entry_seen c.args.cut.now c.read_item.new.cut c.read_item.result c.read_item.ensures.reads

pub returns-clause-refused : goal.returns-clause-refused
returns-clause-refused c =
    let addrs = c.args.addrs.now in
    refused_by (location_entry addrs) (read_location_entry addrs) (location_entry_exact addrs) entry_seen c.args.cut.now c.read_item.new.cut c.read_item.result c.read_item.ensures.reads
