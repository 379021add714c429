use Rattle.layout_values.specs.Images.{levels}
use Rattle.value_reader.proofs.Exact.{one_value}
use Rattle.value_reader.proofs.laws.one_value.Goals as goal

pub returns : goal.returns
returns x = λ c depth ty p a b h g. one_value c (levels depth) depth ty p a b h g
