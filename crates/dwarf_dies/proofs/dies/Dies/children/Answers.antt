use Rattle.std.proofs.Common.{◌∙◌}
use Rattle.dwarf_entries.specs.TextResults.{bytes_of}
use Rattle.dwarf_dies.proofs.ChildLists.{children_is}
use Rattle.dwarf_dies.proofs.Kept.{sees}
use Rattle.dwarf_dies.proofs.dies.Dies.children.Goals as goal

pub returns : goal.returns
returns c =
    let s = sees c.self.inside.abbrevs.now (bytes_of c.self.inside.sections) c.self.inside.units c.self.inside.count c.args.self.now c.self.invariant c.self.view_is in
    c.children.ensures ∙ children_is c.self.inside.abbrevs.now c.args.self.now c.self.inside.units s c.args.number
