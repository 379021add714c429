use Rattle.std.proofs.Common.{◌∙◌}
use Rattle.layout_name_laws.proofs.SameNames.{first_named}
use Rattle.layout_name_laws.proofs.law_10.first_named_ill.Goals as goal

pub returns : goal.returns
returns c =
    rw c.earlier.ensures (first_named c.one_rust_name.ensures c.args.types.now c.as_slice.result.now c.in_ok-misnamed.misnamed c.in_ok-again.again c.requires (c.as_slice.ensures.value ∙ c.in_ok-texts.ensures) c.in_ok-misnamed.ensures c.in_ok-again.ensures)
