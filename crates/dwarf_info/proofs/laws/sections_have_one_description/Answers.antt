use Rattle.dwarf_info.proofs.Splits.{one}
use Rattle.dwarf_info.proofs.laws.sections_have_one_description.Goals as goal

pub returns : goal.returns
returns c abbrevs sections = one c.units_are_read_one_way.ensures abbrevs sections
