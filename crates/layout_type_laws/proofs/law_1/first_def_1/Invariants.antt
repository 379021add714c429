use Rattle.std.specs.List.{AllWithin}
use Rattle.layout_set.specs.Law1.{RefersWithin}
use Rattle.layout_type_laws.proofs.law_1.first_def_1.Given as goal

abbrev pub invariant-loop-i : goal.invariant-loop-i
invariant-loop-i l = AllWithin (RefersWithin l.count) l.types 0 l.i
