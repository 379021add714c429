-- What is read is seen.
use Rattle.std.proofs.Common.{refl, ap}
use Rattle.dwarf_entries.specs.TextResults.{bytes_of}
use Rattle.dwarf_dies.proofs.Views.{info_is}
use Rattle.dwarf_dies.proofs.dies.read_dies.Goals as goal

pub returns-clause-dies : goal.returns-clause-dies
returns-clause-dies c =
    let k = c.in_ok-units.ensures.units in
    record { units = k.units; are = k.are; info_is = info_is c.args.abbrevs.now (bytes_of c.args.sections) k.units k.are }
