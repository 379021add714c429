use Rattle.std.specs.List.{AllWithin}
use Rattle.layout_set.specs.Law10.{HasPathName}
use Rattle.layout_name_laws.proofs.law_10.first_static_10.Given as goal

abbrev pub invariant-loop-i : goal.invariant-loop-i
invariant-loop-i l = AllWithin HasPathName l.statics 0 l.i
