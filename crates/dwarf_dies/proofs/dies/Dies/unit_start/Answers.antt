use Rattle.std.proofs.Common.{◌∙◌, Some, None, ap}
use Rattle.std.specs.Option.{option_map}
use Rattle.dwarf_units.specs.declared.header.UnitHeader.{UnitHeader}
use Rattle.dwarf_entries.specs.TextResults.{bytes_of}
use Rattle.dwarf_dies.proofs.Kept.{sees}
use Rattle.dwarf_dies.proofs.Targets.{start_is}
use Rattle.dwarf_dies.proofs.dies.Dies.unit_start.Goals as goal

pub returns-in_err-entry : goal.returns-in_err-entry
returns-in_err-entry c =
    let s = sees c.self.inside.abbrevs.now (bytes_of c.self.inside.sections) c.self.inside.units c.self.inside.count c.args.self.now c.self.invariant c.self.view_is in
    c.from_residual.ensures ∙ start_is c.self.inside.abbrevs.now c.args.self.now c.self.inside.units s c.args.number None c.in_err-entry.ensures

pub returns-in_err-header : goal.returns-in_err-header
returns-in_err-header c =
    let s = sees c.self.inside.abbrevs.now (bytes_of c.self.inside.sections) c.self.inside.units c.self.inside.count c.args.self.now c.self.invariant c.self.view_is in
    c.from_residual-in_err-header.ensures ∙ ap (option_map (λ (h : UnitHeader). h.offset)) c.in_err-header.ensures ∙ start_is c.self.inside.abbrevs.now c.args.self.now c.self.inside.units s c.args.number (Some c.in_ok-entry.entry.now) c.in_ok-entry.ensures

pub returns : goal.returns
returns c =
    let s = sees c.self.inside.abbrevs.now (bytes_of c.self.inside.sections) c.self.inside.units c.self.inside.count c.args.self.now c.self.invariant c.self.view_is in
    ap (option_map (λ (h : UnitHeader). h.offset)) c.in_ok-header.ensures ∙ start_is c.self.inside.abbrevs.now c.args.self.now c.self.inside.units s c.args.number (Some c.in_ok-entry.entry.now) c.in_ok-entry.ensures
