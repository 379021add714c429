-- An exact reader makes a form definite.
use Rattle.dwarf_units.proofs.UnitReads.{one_split}
use Rattle.dwarf_units.proofs.laws.units_are_read_one_way.Goals as goal

pub returns : goal.returns
returns c = one_split
