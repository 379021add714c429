use Rattle.std.specs.List.{AllWithin}
use Rattle.layout_set.specs.Law10.{HasGoodName}
use Rattle.layout_name_laws.proofs.law_10.first_misnamed.Given as goal

abbrev pub invariant-loop-i : goal.invariant-loop-i
invariant-loop-i l = AllWithin HasGoodName l.types 0 l.i
