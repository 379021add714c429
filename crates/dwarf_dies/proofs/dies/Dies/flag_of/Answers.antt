use Rattle.std.proofs.Common.{◌∙◌, ap}
use Rattle.dwarf_entries.specs.Lookups.{flag_of}
use Rattle.dwarf_dies.proofs.dies.Dies.flag_of.Goals as goal

pub returns-in-None : goal.returns-in-None
returns-in-None c = ap flag_of c.in-None.ensures

pub returns-in-Some : goal.returns-in-Some
returns-in-Some c = c.is_set.ensures ∙ ap flag_of c.in-Some.ensures
