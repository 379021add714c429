use Rattle.std.specs.List.{AllWithin}
use Rattle.layout_set.specs.Law1.{HasTypeWithin}
use Rattle.layout_type_laws.proofs.law_1.first_static_1.Given as goal

abbrev pub invariant-loop-i : goal.invariant-loop-i
invariant-loop-i l = AllWithin (HasTypeWithin l.count) l.statics 0 l.i
