-- An entry, and its expression, if it has one.
use Rattle.std.proofs.Common.{refl}
use Rattle.dwarf_list_entries.specs.Locations.{entry_seen}
use Rattle.dwarf_locations.specs.Lists.{SayOf}
use Rattle.dwarf_locations.proofs.Listed.{said_taken}
use Rattle.dwarf_locations.proofs.said.read_said.Goals as goal
use Rattle.dwarf_locations.proofs.said.read_said.Goals.{in-Some+in_ok-loc-in-Some, in-None}

pub returns-clause-taken : goal.returns-clause-taken
returns-clause-taken c =
    let frame = c.args.frame in let addrs = c.args.addrs.now in
    let e = entry_seen c.in_ok-entry.entry in let loc = c.match-entry.loc in
    let s : SayOf frame addrs e.expression loc = elim c.match-entry.branch [
      | in-Some+in_ok-loc-in-Some w ↦ rw (w.in-Some.is, w.loc-is) w.in_ok-loc-in-Some.ensures.said
      | in-None w ↦ rw (w.in-None.is, w.loc-is) refl
    ] in
    said_taken frame addrs c.args.cut.now c.read_location_entry.new.cut e loc c.in_ok-entry.ensures.taken s
