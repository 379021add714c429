use Rattle.std.specs.List.{AllWithin}
use Rattle.layout_set.specs.Law1.{IsWithin}
use Rattle.layout_type_laws.proofs.law_1.are_within.Given as goal

abbrev pub invariant-loop-ty : goal.invariant-loop-ty
invariant-loop-ty l = AllWithin (IsWithin l.count) l.types 0 l.ty-index
