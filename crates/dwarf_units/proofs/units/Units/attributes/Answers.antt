-- An entry is read again where it is.
use Rattle.std.proofs.Common.{◌∙◌}
use Rattle.dwarf_units.proofs.Found.{found, read_again_is}
use Rattle.dwarf_units.proofs.units.Units.attributes.Goals as goal

pub returns : goal.returns
returns c abbrevs us are holds =
    let info = c.args.info.now in
    let kept = c.args.self.now in
    let n = c.in_ok-entry.entry.now in
    c.read_again.ensures ∙ read_again_is info kept us c.args.number n (found abbrevs info us kept c.args.number n are holds c.in_ok-entry.ensures)
