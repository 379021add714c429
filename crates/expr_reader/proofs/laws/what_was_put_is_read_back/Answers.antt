-- The bytes say the place that was put, and have one reading.
use Rattle.expr_reader.proofs.Readings.{read_back}
use Rattle.expr_reader.proofs.laws.what_was_put_is_read_back.Goals as goal

pub returns : goal.returns
returns c = read_back
