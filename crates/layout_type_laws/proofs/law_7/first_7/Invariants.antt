use Rattle.std.specs.List.{AllWithin}
use Rattle.layout_set.specs.Law7.{HasPartsApart}
use Rattle.layout_type_laws.proofs.law_7.first_7.Given as goal

abbrev pub invariant-loop-i : goal.invariant-loop-i
invariant-loop-i l = AllWithin (HasPartsApart l.ptr l.types) l.types 0 l.i
