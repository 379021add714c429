use Rattle.std.specs.List.{AllWithin}
use Rattle.layout_set.specs.Law11.{StandsBefore}
use Rattle.layout_type_laws.proofs.law_11.all_before.Given as goal

abbrev pub invariant-loop-ty : goal.invariant-loop-ty
invariant-loop-ty l = AllWithin (StandsBefore l.types l.i) l.found 0 l.ty-index
