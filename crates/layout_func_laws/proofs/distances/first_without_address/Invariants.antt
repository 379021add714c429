use Rattle.std.specs.List.{AllWithin}
use Rattle.layout_set.specs.Law14.{HasAddress}
use Rattle.layout_func_laws.proofs.distances.first_without_address.Given as goal

abbrev pub invariant-loop-i : goal.invariant-loop-i
invariant-loop-i l = AllWithin HasAddress l.statics 0 l.i
