use Rattle.std.proofs.Common.{sym}
use Rattle.dwarf_entries.specs.TextResults.{bytes_of}
use Rattle.dwarf_dies.proofs.Targets.{sections_are}
use Rattle.dwarf_dies.proofs.dies.Dies.sections.Goals as goal

pub returns : goal.returns
returns c = sym (sections_are c.self.inside.abbrevs.now (bytes_of c.self.inside.sections) c.self.inside.units c.self.inside.count c.args.self.now c.self.invariant c.self.view_is)
