use Rattle.std.proofs.Common.{◌≡◌, take, map}
use Rattle.type_names.specs.RustText.{rust_text}
use Rattle.layout_name_laws.specs.NameLengths.{rust_first, own_text}
use Rattle.layout_name_laws.proofs.rust_lengths.rust_firsts.Given as goal

abbrev pub invariant-loop-def : goal.invariant-loop-def
invariant-loop-def l = l.table.items ≡ map (λ t. rust_first (own_text rust_text t) t) (take l.def-index l.types)
