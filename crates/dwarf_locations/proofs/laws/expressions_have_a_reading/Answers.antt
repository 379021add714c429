-- Operation by operation, and piece by piece, what is read is decided.
use Rattle.dwarf_locations.proofs.SomeReading.{expression_reading}
use Rattle.dwarf_locations.proofs.laws.expressions_have_a_reading.Goals as goal

pub returns : goal.returns
returns c = expression_reading
