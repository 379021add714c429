use Rattle.std.specs.List.{AllWithin}
use Rattle.layout_set.specs.Law9.{HasTagAlone}
use Rattle.layout_type_laws.proofs.law_9.first_9.Given as goal

abbrev pub invariant-loop-i : goal.invariant-loop-i
invariant-loop-i l = AllWithin (HasTagAlone l.ptr l.types) l.types 0 l.i
