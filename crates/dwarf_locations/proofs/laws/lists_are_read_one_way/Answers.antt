-- Entry by entry they are, and expression by expression.
use Rattle.dwarf_locations.proofs.OneWay.{list_once}
use Rattle.dwarf_locations.proofs.laws.lists_are_read_one_way.Goals as goal

pub returns : goal.returns
returns c = list_once
