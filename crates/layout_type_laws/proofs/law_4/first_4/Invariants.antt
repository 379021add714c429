use Rattle.std.specs.List.{AllWithin}
use Rattle.layout_set.specs.Law4.{HasPartsWithin}
use Rattle.layout_type_laws.proofs.law_4.first_4.Given as goal

abbrev pub invariant-loop-i : goal.invariant-loop-i
invariant-loop-i l = AllWithin (HasPartsWithin l.ptr l.types) l.types 0 l.i
