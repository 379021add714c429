-- The start, and the length.
use Rattle.std.proofs.Common.{arith}
use Rattle.rv_bytes.proofs.Puts.{on_ok}
use Rattle.cv_record_writer.proofs.RangePuts.{gap_puts}
use Rattle.cv_record_writer.proofs.ranges.put_gap.Goals as goal

pub returns : goal.returns
returns c =
    on_ok (λ e. gap_puts c.args.start c.args.len c.args.out.now c.put_u16.new.out c.put_u16-2.new.out (omega arith) (omega arith) c.in_ok-put_u16.ensures.appended e)
    c.put_u16-2.result c.put_u16-2.ensures.appended
