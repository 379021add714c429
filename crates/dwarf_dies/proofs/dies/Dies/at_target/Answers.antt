use Rattle.std.proofs.Common.{◌∙◌, ap, sym, length, arith}
use Rattle.std.specs.Option.{option_map}
use Rattle.dwarf_entries.specs.Shapes.{Sections}
use Rattle.dwarf_entries.specs.TextResults.{bytes_of}
use Rattle.dwarf_dies.specs.Views.{number_of_die}
use Rattle.dwarf_dies.proofs.Kept.{sees}
use Rattle.dwarf_dies.proofs.Targets.{none_far, sections_are}
use Rattle.dwarf_dies.proofs.dies.Dies.at_target.Goals as goal

pub returns-then-target-self : goal.returns-then-target-self
returns-then-target-self c =
    let s = sees c.self.inside.abbrevs.now (bytes_of c.self.inside.sections) c.self.inside.units c.self.inside.count c.args.self.now c.self.invariant c.self.view_is in
    let same = sections_are c.self.inside.abbrevs.now (bytes_of c.self.inside.sections) c.self.inside.units c.self.inside.count c.args.self.now c.self.invariant c.self.view_is in
    sym (ap (option_map number_of_die) (none_far c.self.inside.abbrevs.now c.args.self.now c.self.inside.units s c.args.target (omega (arith, ap (λ (x : Sections). length x.info) same, c.if-target-self.true))))
