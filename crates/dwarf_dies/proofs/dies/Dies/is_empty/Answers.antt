use Rattle.std.proofs.Common.{◌∙◌, ◌==◌, ap}
use Rattle.dwarf_entries.specs.TextResults.{bytes_of}
use Rattle.dwarf_dies.proofs.Kept.{sees, counted}
use Rattle.dwarf_dies.proofs.dies.Dies.is_empty.Goals as goal

pub returns : goal.returns
returns c =
    let s = sees c.self.inside.abbrevs.now (bytes_of c.self.inside.sections) c.self.inside.units c.self.inside.count c.args.self.now c.self.invariant c.self.view_is in
    ap (λ n. n == 0) (c.self.invariant.count_is ∙ counted c.self.inside.abbrevs.now c.args.self.now c.self.inside.units s)
