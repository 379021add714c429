use Rattle.std.proofs.Common.{◌∙◌, Some, None, refl}
use Rattle.dwarf_entries.specs.TextResults.{bytes_of}
use Rattle.dwarf_dies.proofs.Kept.{sees, seen}
use Rattle.dwarf_dies.proofs.dies.Dies.offset.Goals as goal

pub returns-in_err-entry : goal.returns-in_err-entry
returns-in_err-entry c =
    let s = sees c.self.inside.abbrevs.now (bytes_of c.self.inside.sections) c.self.inside.units c.self.inside.count c.args.self.now c.self.invariant c.self.view_is in
    c.from_residual.ensures ∙ seen c.self.inside.abbrevs.now c.args.self.now c.self.inside.units s (λ e. e.offset) (λ n. n.offset) (λ k e. refl) c.args.number None c.in_err-entry.ensures

pub returns : goal.returns
returns c =
    let s = sees c.self.inside.abbrevs.now (bytes_of c.self.inside.sections) c.self.inside.units c.self.inside.count c.args.self.now c.self.invariant c.self.view_is in
    seen c.self.inside.abbrevs.now c.args.self.now c.self.inside.units s (λ e. e.offset) (λ n. n.offset) (λ k e. refl) c.args.number (Some c.in_ok-entry.entry.now) c.in_ok-entry.ensures
