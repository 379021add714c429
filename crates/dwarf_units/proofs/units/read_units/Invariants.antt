use Rattle.std.proofs.Common.{◌≤◌, ◌-◌, length, None}
use Rattle.dwarf_units.specs.Follows.{MayFollow}
use Rattle.dwarf_units.specs.Kept.{AreTablesOf}
use Rattle.dwarf_units.proofs.Rows.{IsReadTo}
use Rattle.dwarf_units.proofs.units.read_units.Given as goal

-- the units up to this place are kept, with their tables, and another may follow
abbrev pub invariant-loop-at : goal.invariant-loop-at
invariant-loop-at l = record {
  read : IsReadTo l.abbrevs l.info l.at l.kept;
  tables : AreTablesOf l.abbrevs l.kept.tables;
  few : length l.kept.headers ≤ length l.kept.tree;
  follows : MayFollow l.kept.tree None l.at;
}

abbrev pub decreases-loop-at : goal.decreases-loop-at
decreases-loop-at l = length l.info - l.at
