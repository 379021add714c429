use Rattle.std.proofs.Common.{◌≡◌, take, map}
use Rattle.type_names.specs.CvText.{cv_text}
use Rattle.layout_name_laws.specs.NameLengths.{cv_first, own_text, closes}
use Rattle.layout_name_laws.proofs.cv_lengths.cv_firsts.Given as goal

abbrev pub invariant-loop-def : goal.invariant-loop-def
invariant-loop-def l = l.table.items ≡ map (λ t. cv_first (own_text cv_text t) (closes l.types) t) (take l.def-index l.types)
