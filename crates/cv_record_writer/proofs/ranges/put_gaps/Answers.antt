-- One gap more.
use Rattle.cv_symbol_records.specs.Ranges.{gap_of, gap}
use Rattle.cv_record_writer.specs.SymbolBytes.{gap_bytes}
use Rattle.cv_record_writer.proofs.Lists.{written_none, written_more, written_whole}
use Rattle.cv_record_writer.proofs.ranges.put_gaps.Goals as goal

pub loop-gap-init : goal.loop-gap-init
loop-gap-init c = written_none gap gap_bytes c.args.out.now

pub loop-gap-preserved : goal.loop-gap-preserved
loop-gap-preserved c = written_more gap gap_bytes c.args.gaps.now c.loop-gap.gap-index (gap_of 0 0) c.args.out.now c.loop-gap.out c.put_gap.new.out c.loop-gap-test.true c.loop-gap.invariant c.in_ok-put_gap.ensures

pub returns : goal.returns
returns c = written_whole gap gap_bytes c.args.gaps.now c.loop-gap.gap-index c.args.out.now c.loop-gap.out c.loop-gap-test.false c.loop-gap.invariant
