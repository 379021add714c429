use Rattle.std.proofs.Common.{◌-◌, length, ap, arith, length-append}
use Rattle.snapshot_file.specs.declared.mem.Span.{Span}
use Rattle.snapshot_file.proofs.Laid.{span_within}
use Rattle.snapshot_file.proofs.Putting.{set_longer, longer_runs, longer_fills}
use Rattle.snapshot_file.proofs.mem.extend_run.Goals as goal

pub returns-clause-run : goal.returns-clause-run
returns-clause-run c =
    let put = set_longer c.args.spans.now.items (c.len-last.result - 1) (length c.args.bytes.now) c.index_mut.result.now (omega (arith, c.len-last.ensures)) c.index_mut.ensures.value in
    λ at t. rw (c.in_ok-extend_from_slice.ensures.items, put) (longer_runs c.args.buffer.now.items c.args.bytes.now 0 at c.args.spans.now.items c.requires.filled t)

pub returns-clause-filled : goal.returns-clause-filled
returns-clause-filled c =
    let put = set_longer c.args.spans.now.items (c.len-last.result - 1) (length c.args.bytes.now) c.index_mut.result.now (omega (arith, c.len-last.ensures)) c.index_mut.ensures.value in
    rw (c.in_ok-extend_from_slice.ensures.items, put, length-append c.args.buffer.now.items c.args.bytes.now) (longer_fills 0 (length c.args.buffer.now.items) (length c.args.bytes.now) c.args.spans.now.items c.requires.some c.requires.filled)

pub overflow_add-index_mut : goal.overflow_add-index_mut
overflow_add-index_mut c =
    let within = span_within 0 (length c.args.buffer.now.items) (c.len-last.result - 1) c.index_mut.result.now c.args.spans.now.items c.requires.filled (omega (arith, c.len-last.ensures)) in
    let len = ap (λ (s : Span). s.len) c.index_mut.ensures.value in
    omega (arith, c.in_ok-extend_from_slice.ensures.len, within, len)
