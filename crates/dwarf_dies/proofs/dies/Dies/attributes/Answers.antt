use Rattle.std.proofs.Common.{◌∙◌, ap, map}
use Rattle.std.specs.Option.{option_map}
use Rattle.dwarf_entries.specs.TextResults.{bytes_of}
use Rattle.dwarf_dies.specs.Units.{attribute_of}
use Rattle.dwarf_dies.proofs.FirstAttributes.{attributes_are}
use Rattle.dwarf_dies.proofs.dies.Dies.attributes.Goals as goal

pub returns : goal.returns
returns c =
    let k = c.self.invariant.are_kept in
    ap (option_map (map attribute_of)) (c.attributes.ensures c.self.inside.abbrevs.now k.units k.are k.holds)
    ∙ attributes_are c.self.inside.abbrevs.now (bytes_of c.self.inside.sections) c.self.inside.units c.self.inside.count c.args.self.now c.self.invariant c.self.view_is c.args.number
