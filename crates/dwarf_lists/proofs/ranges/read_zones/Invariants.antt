use Rattle.std.proofs.Common.{length}
use Rattle.dwarf_lists.specs.Readers.{read_range_list}
use Rattle.dwarf_lists.proofs.Loops.{RangesSoFar}
use Rattle.dwarf_lists.proofs.ranges.read_zones.Given as goal

-- what was said, before what is still to be said, is the whole
abbrev pub invariant-loop-zones : goal.invariant-loop-zones
invariant-loop-zones l = RangesSoFar l.fn.addrs (read_range_list l.fn.addrs l.fn.base l.fn.cut.at l.fn.cut.rest) l.zones l.base l.cut.at l.cut.rest

abbrev pub decreases-loop-zones : goal.decreases-loop-zones
decreases-loop-zones l = length l.cut.rest
