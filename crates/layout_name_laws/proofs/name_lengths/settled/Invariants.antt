use Rattle.std.proofs.Common.{◌≡◌, ℕ}
use Rattle.layout_name_laws.specs.NameLengths.{after_rounds, total, unended}
use Rattle.layout_name_laws.proofs.name_lengths.settled.Given as goal

abbrev pub invariant-loop-table : goal.invariant-loop-table
invariant-loop-table l = ((k : ℕ) × (l.table.items ≡ after_rounds k l.initial.table.items)) × (l.left ≡ total unended l.table.items)

abbrev pub decreases-loop-table : goal.decreases-loop-table
decreases-loop-table l = l.left
