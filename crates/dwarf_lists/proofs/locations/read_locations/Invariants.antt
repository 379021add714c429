use Rattle.std.proofs.Common.{length, map}
use Rattle.dwarf_lists.specs.Locations.{location_seen}
use Rattle.dwarf_lists.specs.Readers.{read_location_list}
use Rattle.dwarf_lists.proofs.Loops.{LocationsSoFar}
use Rattle.dwarf_lists.proofs.locations.read_locations.Given as goal

-- what was said, before what is still to be said, is the whole
abbrev pub invariant-loop-locations : goal.invariant-loop-locations
invariant-loop-locations l =
    LocationsSoFar l.fn.addrs (read_location_list l.fn.addrs l.fn.base l.fn.cut.at l.fn.cut.rest) (map location_seen l.locations) l.base l.cut.at l.cut.rest

abbrev pub decreases-loop-locations : goal.decreases-loop-locations
decreases-loop-locations l = length l.cut.rest
