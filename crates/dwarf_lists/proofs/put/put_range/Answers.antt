-- The kind and the two addresses, one after the other.
use Rattle.rv_bytes.proofs.Puts.{on_ok}
use Rattle.dwarf_lists.proofs.Written.{start_end_put}
use Rattle.dwarf_lists.proofs.put.put_range.Goals as goal

pub returns-clause-put : goal.returns-clause-put
returns-clause-put c addrs =
    on_ok (start_end_put addrs c.args.lo c.args.hi c.args.out.now c.put_u8.new.out c.put_u64.new.out c.put_u64-2.new.out c.ranges.lo.fits c.ranges.hi.fits c.in_ok-put_u8.ensures.appended c.in_ok-put_u64.ensures.appended)
    c.put_u64-2.result c.put_u64-2.ensures.appended
