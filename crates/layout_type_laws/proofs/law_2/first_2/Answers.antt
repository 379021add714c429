use Rattle.std.proofs.Common.{◌∙◌}
use Rattle.layout_type_laws.proofs.Chained.{first_by_height}
use Rattle.layout_type_laws.proofs.law_2.first_2.Goals as goal

pub returns : goal.returns
returns c = first_by_height c.args.types.now c.as_slice.result.now c.first_high.result (c.as_slice.ensures.value ∙ c.in_ok-heights.ensures) c.first_high.ensures
