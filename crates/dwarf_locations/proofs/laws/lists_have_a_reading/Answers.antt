-- Entry by entry what is read is decided.
use Rattle.dwarf_locations.proofs.SomeReading.{list_reading}
use Rattle.dwarf_locations.proofs.laws.lists_have_a_reading.Goals as goal

pub returns : goal.returns
returns c = list_reading
