use Rattle.std.proofs.Common.{ap}
use Rattle.dwarf_entries.specs.Shapes.{Sections}
use Rattle.dwarf_zones.specs.Zones.{list_at, zones_read}
use Rattle.dwarf_zones.proofs.Listed.{listed_err, listed_ok}
use Rattle.dwarf_zones.proofs.zones.listed.Goals as goal

pub returns-in-Ok : goal.returns-in-Ok
returns-in-Ok c =
    listed_ok c.args.die.now.info c.args.die.now.die c.args.place c.in-Ok.zones c.addresses_of-addrs.result c.base_address.result c.sections.result.ranges.now
    c.addresses_of-addrs.ensures c.base_address.ensures (ap (λ (s : Sections). s.ranges) c.sections.ensures) c.in-Ok.ensures.ranges

pub returns-in-Err : goal.returns-in-Err
returns-in-Err c =
    listed_err c.args.die.now.info c.args.die.now.die c.args.place c.addresses_of-addrs.result c.base_address.result c.sections.result.ranges.now
    (zones_read (list_at c.args.die.now.info c.args.die.now.die c.args.place)) c.in-Err.error c.in_section.result c.in_section.ensures c.requires
    c.addresses_of-addrs.ensures c.base_address.ensures (ap (λ (s : Sections). s.ranges) c.sections.ensures) c.in-Err.ensures.refused
