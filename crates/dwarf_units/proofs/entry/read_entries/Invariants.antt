use Rattle.std.proofs.Common.{◌≡◌, ◌<◌, length, None}
use Rattle.rv_bytes.specs.Readers.{with_value}
use Rattle.dwarf_units.specs.Entries.{due_under, goes_on}
use Rattle.dwarf_units.specs.Follows.{MayFollow}
use Rattle.dwarf_units.specs.EntryReaders.{read_entries, nodes_after}
use Rattle.dwarf_units.proofs.entry.read_entries.Given as goal

-- what is left leads to the entries to which all leads; the unit's first entry is there, and another may follow
abbrev pub invariant-loop-under : goal.invariant-loop-under
invariant-loop-under l = record {
  whole : with_value (nodes_after (goes_on l.tree l.under)) (read_entries l.table l.unit (goes_on l.tree l.under) l.cut.at l.cut.rest)
      ≡ with_value (nodes_after (due_under l.fn.tree None)) (read_entries l.table l.unit (due_under l.fn.tree None) l.fn.cut.at l.fn.cut.rest);
  follows : MayFollow l.tree l.under l.cut.at;
  more : length l.fn.tree < length l.tree;
}

abbrev pub decreases-loop-under : goal.decreases-loop-under
decreases-loop-under l = length l.cut.rest
