use Rattle.std.proofs.Common.{◌∙◌}
use Rattle.dwarf_entries.specs.TextResults.{bytes_of}
use Rattle.dwarf_dies.proofs.Kept.{sees, counted}
use Rattle.dwarf_dies.proofs.Laws.{linked}
use Rattle.dwarf_dies.proofs.dies.Dies.len.Goals as goal

pub returns-clause-count : goal.returns-clause-count
returns-clause-count c =
    let s = sees c.self.inside.abbrevs.now (bytes_of c.self.inside.sections) c.self.inside.units c.self.inside.count c.args.self.now c.self.invariant c.self.view_is in
    c.self.invariant.count_is ∙ counted c.self.inside.abbrevs.now c.args.self.now c.self.inside.units s

pub returns-clause-laws : goal.returns-clause-laws
returns-clause-laws c =
    let s = sees c.self.inside.abbrevs.now (bytes_of c.self.inside.sections) c.self.inside.units c.self.inside.count c.args.self.now c.self.invariant c.self.view_is in
    linked c.self.inside.abbrevs.now c.args.self.now c.self.inside.units s
