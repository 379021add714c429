-- An exact reader makes a form definite.
use Rattle.rv_bytes.specs.Rules.{outside}
use Rattle.rv_bytes.proofs.Exact.{definite}
use Rattle.rv_bytes.proofs.Sections.{one_answer}
use Rattle.dwarf_lists.specs.Ranges.{range_list}
use Rattle.dwarf_lists.specs.Locations.{location_list}
use Rattle.dwarf_lists.specs.Readers.{read_range_list, read_location_list}
use Rattle.dwarf_lists.proofs.ListsExact.{range_list_exact, location_list_exact}
use Rattle.dwarf_lists.proofs.laws.lists_are_read_one_way.Goals as goal

pub returns-clause-ranges : goal.returns-clause-ranges
returns-clause-ranges c addrs base = one_answer outside (range_list addrs base) (definite (range_list addrs base) (read_range_list addrs base) (range_list_exact addrs base))

pub returns-clause-locations : goal.returns-clause-locations
returns-clause-locations c addrs base = one_answer outside (location_list addrs base) (definite (location_list addrs base) (read_location_list addrs base) (location_list_exact addrs base))
