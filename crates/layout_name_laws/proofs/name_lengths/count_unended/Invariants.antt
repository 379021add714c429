use Rattle.std.proofs.Common.{◌≡◌, ◌≤◌, ◌+◌, drop}
use Rattle.layout_name_laws.specs.NameLengths.{total, unended}
use Rattle.layout_name_laws.proofs.name_lengths.count_unended.Given as goal

abbrev pub invariant-loop-e : goal.invariant-loop-e
invariant-loop-e l = (l.count ≤ l.e-index) × (l.count + total unended (drop l.e-index l.table) ≡ total unended l.table)
