use Rattle.std.proofs.Common.{◌∙◌, Some, None, refl}
use Rattle.dwarf_entries.specs.Tags.{tag_of}
use Rattle.dwarf_entries.specs.TextResults.{bytes_of}
use Rattle.dwarf_dies.proofs.Kept.{sees, and_seen}
use Rattle.dwarf_dies.proofs.dies.Dies.what.Goals as goal

pub returns-in_err-entry : goal.returns-in_err-entry
returns-in_err-entry c =
    let s = sees c.self.inside.abbrevs.now (bytes_of c.self.inside.sections) c.self.inside.units c.self.inside.count c.args.self.now c.self.invariant c.self.view_is in
    c.from_residual.ensures ∙ and_seen c.self.inside.abbrevs.now c.args.self.now c.self.inside.units s (λ e. tag_of e.tag) (λ n. tag_of n.tag) (λ k e. refl) c.args.number None c.in_err-entry.ensures

pub returns : goal.returns
returns c =
    let s = sees c.self.inside.abbrevs.now (bytes_of c.self.inside.sections) c.self.inside.units c.self.inside.count c.args.self.now c.self.invariant c.self.view_is in
    c.tag_of.ensures ∙ and_seen c.self.inside.abbrevs.now c.args.self.now c.self.inside.units s (λ e. tag_of e.tag) (λ n. tag_of n.tag) (λ k e. refl) c.args.number (Some c.in_ok-entry.entry.now) c.in_ok-entry.ensures
