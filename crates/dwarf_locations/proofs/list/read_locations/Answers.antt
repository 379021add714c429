-- The cut stands at the place of the section.
use Rattle.rv_bytes.specs.Rules.{outside}
use Rattle.dwarf_locations.proofs.Listed.{list_begins, list_breaks}
use Rattle.dwarf_locations.proofs.list.read_locations.Goals as goal

pub returns-clause-entries : goal.returns-clause-entries
returns-clause-entries c =
    list_begins c.args.frame c.args.addrs.now c.args.base c.args.section.now c.args.at c.from_place-cut.result c.read_entries.new.cut c.read_entries.result c.from_place-cut.ensures c.if-at-section.false c.read_entries.ensures.taken

pub returns-clause-refused : goal.returns-clause-refused
returns-clause-refused c =
    list_breaks c.args.frame c.args.addrs.now c.args.base outside c.args.section.now c.args.at c.from_place-cut.result c.read_entries.result c.from_place-cut.ensures c.if-at-section.false c.read_entries.ensures.refused
