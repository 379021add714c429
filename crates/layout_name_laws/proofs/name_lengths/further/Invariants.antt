use Rattle.std.proofs.Common.{◌≡◌, take, map}
use Rattle.layout_name_laws.specs.NameLengths.{doubled}
use Rattle.layout_name_laws.proofs.name_lengths.further.Given as goal

abbrev pub invariant-loop-e : goal.invariant-loop-e
invariant-loop-e l = l.next.items ≡ map (doubled l.table) (take l.e-index l.table)
