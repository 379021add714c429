-- The fields, and the gaps.
use Rattle.std.proofs.Common.{length, OnOk, subst, arith}
use Rattle.rv_bytes.proofs.Puts.{on_ok}
use Rattle.cv_parts.specs.Puts.{Puts}
use Rattle.cv_parts.specs.Series.{so_many}
use Rattle.cv_symbol_records.specs.Ranges.{gap}
use Rattle.cv_record_writer.specs.Contents.{all_bytes}
use Rattle.cv_record_writer.specs.SymbolBytes.{gap_bytes}
use Rattle.cv_record_writer.proofs.RangePuts.{range_puts}
use Rattle.cv_record_writer.proofs.ranges.put_range.Goals as goal

pub returns : goal.returns
returns c =
    on_ok
    (range_puts c.args.range.now c.args.out.now c.put_u32.new.out c.put_u16.new.out c.put_u16-2.new.out c.put_gaps.new.out (omega arith) (omega arith) (omega arith)
    c.in_ok-put_u32.ensures.appended c.in_ok-put_u16.ensures.appended c.in_ok-put_u16-2.ensures.appended) c.put_gaps.result
    (subst (λ s. OnOk c.put_gaps.result (Puts (so_many gap (length s)) s (all_bytes gap_bytes s) c.put_u16-2.new.out c.put_gaps.new.out)) c.as_slice.ensures c.put_gaps.ensures)
