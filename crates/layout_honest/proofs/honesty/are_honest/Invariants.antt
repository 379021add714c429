use Rattle.std.proofs.Common.{◌≡◌, true, take}
use Rattle.std.specs.List.{list_all}
use Rattle.layout_honest.specs.Lies.{honest_type}
use Rattle.layout_honest.proofs.honesty.are_honest.Given as goal

abbrev pub invariant-loop-def : goal.invariant-loop-def
invariant-loop-def l = list_all (honest_type 8 l.types) (take l.def-index l.types) ≡ true
