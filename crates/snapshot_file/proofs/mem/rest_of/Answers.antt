use Rattle.std.proofs.Common.{◌-◌, arith, length, subst}
use Rattle.snapshot_file.specs.declared.mem.Span.{Span}
use Rattle.snapshot_file.specs.Spans.{runs_of, IsRest}
use Rattle.snapshot_file.proofs.Laid.{spans_rise, span_within, no_span, last_span, all_behind, none_behind}
use Rattle.snapshot_file.proofs.mem.rest_of.Goals as goal

none : Span
none = record { at = 0; start = 0; len = 0 }

pub begun-place-requires : goal.begun-place-requires
begun-place-requires c = spans_rise c.args.buffer.now 1 0 c.args.spans.now c.requires.apart

pub returns-then-place-eq0 : goal.returns-then-place-eq0
returns-then-place-eq0 c = no_span c.args.buffer.now c.args.spans.now c.args.at c.begun-place.result none c.requires.apart c.if-place-eq0.true c.begun-place.ensures.parted

pub part-run-requires : goal.part-run-requires
part-run-requires c = span_within 0 (length c.args.buffer.now) (c.begun-place.result - 1) (record { at = 0; start = 0; len = 0 }) c.args.spans.now c.requires.filled (omega arith)

pub returns-then-off-run : goal.returns-then-off-run
returns-then-off-run c =
    let is = last_span c.args.buffer.now c.args.spans.now c.args.at c.begun-place.result (record { at = 0; start = 0; len = 0 }) c.part-run.result.now c.requires.apart c.if-place-eq0.false c.begun-place.ensures.count c.begun-place.ensures.parted c.part-run.ensures in
    rw all_behind is

pub returns-else-off-run : goal.returns-else-off-run
returns-else-off-run c =
    let is = last_span c.args.buffer.now c.args.spans.now c.args.at c.begun-place.result (record { at = 0; start = 0; len = 0 }) c.part-run.result.now c.requires.apart c.if-place-eq0.false c.begun-place.ensures.count c.begun-place.ensures.parted c.part-run.ensures in
    subst (IsRest (runs_of c.args.buffer.now c.args.spans.now) c.args.at) (none_behind _ c.part-run.result.now c.if-off-run.false) is
