use Rattle.std.proofs.Common.{◌≡◌, length, length-append, arith}
use Rattle.snapshot_file.proofs.Putting.{pushed_runs, pushed_fills}
use Rattle.snapshot_file.proofs.mem.push_run.Goals as goal

pub returns-in-Ok-clause-run : goal.returns-in-Ok-clause-run
returns-in-Ok-clause-run c =
    let start : c.len-start.result ≡ length c.args.buffer.now.items = omega (arith, c.len-start.ensures) in
    rw (c.in_ok-extend_from_slice.ensures.items, c.in-Ok.ensures.items, start) (pushed_runs c.args.buffer.now.items c.args.bytes.now 0 c.args.at c.args.spans.now.items c.requires.filled c.requires.apart)

pub returns-in-Ok-clause-filled : goal.returns-in-Ok-clause-filled
returns-in-Ok-clause-filled c =
    let start : c.len-start.result ≡ length c.args.buffer.now.items = omega (arith, c.len-start.ensures) in
    rw (c.in_ok-extend_from_slice.ensures.items, c.in-Ok.ensures.items, start, length-append c.args.buffer.now.items c.args.bytes.now) (pushed_fills 0 (length c.args.buffer.now.items) c.args.at (length c.args.bytes.now) c.args.spans.now.items c.requires.filled)
