use Rattle.std.specs.List.{AllWithin}
use Rattle.layout_set.specs.Law8.{HasGoodNumbers}
use Rattle.layout_type_laws.proofs.law_8.first_8.Given as goal

abbrev pub invariant-loop-i : goal.invariant-loop-i
invariant-loop-i l = AllWithin (HasGoodNumbers 8) l.types 0 l.i
