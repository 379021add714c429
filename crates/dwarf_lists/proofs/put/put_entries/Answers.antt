-- One entry more, and the end of the list after all.
use Rattle.rv_bytes.proofs.Puts.{on_ok, extends_more}
use Rattle.dwarf_lists.proofs.Written.{entries_more, entries_whole}
use Rattle.dwarf_lists.proofs.put.put_entries.Goals as goal

pub loop-zone-preserved : goal.loop-zone-preserved
loop-zone-preserved c = record {
  put =
      entries_more c.args.zones.now c.loop-zone.zone-index (record { lo = 0; hi = 0 }) c.args.out.now c.loop-zone.out c.put_range.new.out c.loop-zone-test.true c.loop-zone.invariant.put
      c.in_ok-put_range.ensures.put;
  kept = extends_more c.args.out.now c.loop-zone.out c.put_range.new.out c.loop-zone.invariant.kept c.in_ok-put_range.ensures.kept;
}

pub returns-clause-put : goal.returns-clause-put
returns-clause-put c =
    on_ok (entries_whole c.args.zones.now c.loop-zone.zone-index c.args.out.now c.loop-zone.out c.put_u8.new.out c.loop-zone-test.false c.loop-zone.invariant.put) c.put_u8.result c.put_u8.ensures.appended
