use Rattle.std.specs.List.{AllWithin}
use Rattle.layout_set.specs.Law12.{IsInside}
use Rattle.layout_func_laws.proofs.law_12.all_inside.Given as goal

abbrev pub invariant-loop-zone : goal.invariant-loop-zone
invariant-loop-zone l = AllWithin (IsInside l.outer) l.zones 0 l.zone-index
