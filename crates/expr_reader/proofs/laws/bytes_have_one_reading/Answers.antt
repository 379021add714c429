-- Readings of the same bytes are compared, operation by operation.
use Rattle.expr_reader.proofs.Readings.{one_reading}
use Rattle.expr_reader.proofs.laws.bytes_have_one_reading.Goals as goal

pub returns : goal.returns
returns c = one_reading
