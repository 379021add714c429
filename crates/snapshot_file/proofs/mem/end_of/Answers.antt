use Rattle.std.proofs.Common.{◌-◌, arith, length, ap}
use Rattle.snapshot_file.specs.Spans.{runs_of}
use Rattle.snapshot_file.proofs.Laid.{span_within, end_is, last_small, past_last}
use Rattle.snapshot_file.specs.declared.mem.Span.{Span}
use Rattle.snapshot_file.proofs.mem.end_of.Goals as goal

pub part-requires : goal.part-requires
part-requires c =
    let item = c.in-Some.ensures.item in
    let within = span_within 0 (length c.args.buffer.now) (length c.args.spans.now - 1) c.in-Some.span.now c.args.spans.now c.requires.filled (omega (arith, item.3.0)) in
    omega (arith, within, ap (λ (s : Span). s.start) item.1, ap (λ (s : Span). s.len) item.1)

pub returns-in-Some-clause-last : goal.returns-in-Some-clause-last
returns-in-Some-clause-last c =
    let item = c.in-Some.ensures.item in
    end_is c.args.buffer.now c.args.spans.now c.in-Some.span.now c.from.result c.part.result.now item.3.0 item.1 c.from.ensures c.part.ensures

pub returns-in-Some-clause-none : goal.returns-in-Some-clause-none
returns-in-Some-clause-none c =
    let item = c.in-Some.ensures.item in
    let is = end_is c.args.buffer.now c.args.spans.now c.in-Some.span.now c.from.result c.part.result.now item.3.0 item.1 c.from.ensures c.part.ensures in
    λ a l. past_last 1 0 a (runs_of c.args.buffer.now c.args.spans.now) c.requires.apart (omega (arith, is))

pub overflow_add-result : goal.overflow_add-result
overflow_add-result c =
    let item = c.in-Some.ensures.item in
    let is = end_is c.args.buffer.now c.args.spans.now c.in-Some.span.now c.from.result c.part.result.now item.3.0 item.1 c.from.ensures c.part.ensures in
    omega (arith, is, last_small 1 0 (runs_of c.args.buffer.now c.args.spans.now) c.requires.apart)
