-- One gap more, none is left, or the next is invalid.
use Rattle.std.proofs.lemmas.Result.{err_from_is_err_and}
use Rattle.rv_bytes.proofs.Calls.{refusal_on}
use Rattle.cv_parts.specs.RecordReaders.{read_so_many}
use Rattle.cv_parts.proofs.Counts.{many_on, many_end, many_bad}
use Rattle.cv_symbol_records.specs.Ranges.{gap}
use Rattle.cv_symbol_records.specs.RangeReaders.{read_gap}
use Rattle.cv_symbol_records.proofs.RangeForms.{gap_exact, gap_byte}
use Rattle.cv_symbol_records.proofs.ranges.read_gaps.Goals as goal

pub returns-in_err-gap : goal.returns-in_err-gap
returns-in_err-gap c =
    let p = err_from_is_err_and c.from_residual.result c.from_residual.ensures.1 in
    rw (p.1, p.2)
    (refusal_on (read_gap c.loop-left.cut.at c.loop-left.cut.rest) _ _ _ _ c.in_err-gap.ensures
    (λ r m e. many_bad gap read_gap (read_so_many read_gap c.args.count c.args.cut.now.at c.args.cut.now.rest) c.loop-left.gaps c.loop-left.left c.loop-left.cut.at c.loop-left.cut.rest r m c.loop-left.invariant c.loop-left-test.true e))

pub loop-left-preserved : goal.loop-left-preserved
loop-left-preserved c =
    rw c.in_ok-push.ensures.last
    (many_on gap read_gap gap_byte gap_exact (read_so_many read_gap c.args.count c.args.cut.now.at c.args.cut.now.rest) c.loop-left.gaps c.loop-left.left c.loop-left.cut.at c.loop-left.cut.rest
    c.in_ok-gap.gap c.read_gap.new.cut.at c.read_gap.new.cut.rest c.loop-left.invariant c.loop-left-test.true c.in_ok-gap.ensures)

pub returns : goal.returns
returns c =
    many_end gap read_gap (read_so_many read_gap c.args.count c.args.cut.now.at c.args.cut.now.rest) c.loop-left.gaps c.loop-left.left c.loop-left.cut.at c.loop-left.cut.rest c.loop-left.invariant c.loop-left-test.false
