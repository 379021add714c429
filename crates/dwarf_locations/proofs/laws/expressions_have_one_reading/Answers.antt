-- Piece by piece the readings are the same.
use Rattle.dwarf_locations.proofs.OneWay.{expression_once}
use Rattle.dwarf_locations.proofs.laws.expressions_have_one_reading.Goals as goal

pub returns : goal.returns
returns c = expression_once
