use Rattle.std.proofs.Common.{◌∙◌, Some, None, refl}
use Rattle.dwarf_entries.specs.TextResults.{bytes_of}
use Rattle.dwarf_dies.proofs.Kept.{sees, and_seen}
use Rattle.dwarf_dies.proofs.Laws.{linked}
use Rattle.dwarf_dies.proofs.Parents.{owner_is}
use Rattle.dwarf_dies.proofs.dies.Dies.parent.Goals as goal

pub returns-in_err-entry-clause-up : goal.returns-in_err-entry-clause-up
returns-in_err-entry-clause-up c =
    let s = sees c.self.inside.abbrevs.now (bytes_of c.self.inside.sections) c.self.inside.units c.self.inside.count c.args.self.now c.self.invariant c.self.view_is in
    c.from_residual.ensures ∙ and_seen c.self.inside.abbrevs.now c.args.self.now c.self.inside.units s (λ e. e.up) (λ n. n.up) (λ k e. refl) c.args.number None c.in_err-entry.ensures

pub returns-in_err-entry-clause-owner : goal.returns-in_err-entry-clause-owner
returns-in_err-entry-clause-owner c =
    let s = sees c.self.inside.abbrevs.now (bytes_of c.self.inside.sections) c.self.inside.units c.self.inside.count c.args.self.now c.self.invariant c.self.view_is in
    owner_is c.args.self.now (linked c.self.inside.abbrevs.now c.args.self.now c.self.inside.units s) c.args.number c.from_residual.result (c.from_residual.ensures ∙ and_seen c.self.inside.abbrevs.now c.args.self.now c.self.inside.units s (λ e. e.up) (λ n. n.up) (λ k e. refl) c.args.number None c.in_err-entry.ensures)

pub returns-clause-up : goal.returns-clause-up
returns-clause-up c =
    let s = sees c.self.inside.abbrevs.now (bytes_of c.self.inside.sections) c.self.inside.units c.self.inside.count c.args.self.now c.self.invariant c.self.view_is in
    and_seen c.self.inside.abbrevs.now c.args.self.now c.self.inside.units s (λ e. e.up) (λ n. n.up) (λ k e. refl) c.args.number (Some c.in_ok-entry.entry.now) c.in_ok-entry.ensures

pub returns-clause-owner : goal.returns-clause-owner
returns-clause-owner c =
    let s = sees c.self.inside.abbrevs.now (bytes_of c.self.inside.sections) c.self.inside.units c.self.inside.count c.args.self.now c.self.invariant c.self.view_is in
    owner_is c.args.self.now (linked c.self.inside.abbrevs.now c.args.self.now c.self.inside.units s) c.args.number c.in_ok-entry.entry.now.up (and_seen c.self.inside.abbrevs.now c.args.self.now c.self.inside.units s (λ e. e.up) (λ n. n.up) (λ k e. refl) c.args.number (Some c.in_ok-entry.entry.now) c.in_ok-entry.ensures)
