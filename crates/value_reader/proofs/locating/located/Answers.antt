use Rattle.std.proofs.lemmas.List.FromFn.{length-map-range_with_len}
use Rattle.value_reader.proofs.locating.located.Goals as goal

pub returns-clause-size : goal.returns-clause-size
returns-clause-size c = length-map-range_with_len _ 0 c.args.size
