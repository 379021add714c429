use Rattle.std.proofs.Common.{◌∙◌}
use Rattle.layout_name_laws.proofs.RustLinks.{function_first}
use Rattle.layout_name_laws.proofs.rust_lengths.first.Goals as goal

pub returns-in-FnPtr : goal.returns-in-FnPtr
returns-in-FnPtr c = rw c.in-FnPtr.is (c.ended.ensures ∙ function_first)
