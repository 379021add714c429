use Rattle.std.proofs.Common.{◌≡◌, take, map}
use Rattle.layout_name_laws.specs.NameLengths.{closes_def}
use Rattle.layout_name_laws.proofs.cv_lengths.all_close.Given as goal

abbrev pub invariant-loop-def : goal.invariant-loop-def
invariant-loop-def l = l.closed.items ≡ map closes_def (take l.def-index l.types)
