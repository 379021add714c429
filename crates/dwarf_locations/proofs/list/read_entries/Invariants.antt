use Rattle.std.proofs.Common.{length}
use Rattle.dwarf_locations.specs.Steps.{LeadsTo}
use Rattle.dwarf_locations.proofs.list.read_entries.Given as goal

-- the entries up to here were read
abbrev pub invariant-loop-entries : goal.invariant-loop-entries
invariant-loop-entries l = LeadsTo l.fn.frame l.fn.addrs l.fn.base l.fn.cut l.entries l.base l.cut

abbrev pub decreases-loop-entries : goal.decreases-loop-entries
decreases-loop-entries l = length l.cut.rest
