use Rattle.std.proofs.Common.{◌+◌, ◌<◌, length, arith}
use Rattle.std.proofs.lemmas.Grind.{common_steps}
use Rattle.layout_type_laws.proofs.SortedNumbers.{span_of_ends}
use Rattle.layout_type_laws.proofs.law_8.is_span_of.Goals as goal

pub returns : goal.returns
returns c =
    let some : 0 < length c.args.numbers.now = grind (arith, common_steps) in
    span_of_ends (c.args.greatest + 1) c.args.numbers.now c.args.first c.args.last c.follows_exact.result some c.follows_exact.ensures
