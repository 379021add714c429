-- An exact reader makes a form definite.
use Rattle.rv_bytes.proofs.Exact.{definite}
use Rattle.dwarf_list_entries.specs.Entries.{range_entry}
use Rattle.dwarf_list_entries.specs.Locations.{location_entry}
use Rattle.dwarf_list_entries.specs.Readers.{read_range_entry, read_location_entry}
use Rattle.dwarf_list_entries.proofs.EntriesExact.{range_entry_exact, location_entry_exact}
use Rattle.dwarf_list_entries.proofs.laws.entries_are_read_one_way.Goals as goal

pub returns-clause-ranges : goal.returns-clause-ranges
returns-clause-ranges c addrs = definite (range_entry addrs) (read_range_entry addrs) (range_entry_exact addrs)

pub returns-clause-locations : goal.returns-clause-locations
returns-clause-locations c addrs = definite (location_entry addrs) (read_location_entry addrs) (location_entry_exact addrs)
