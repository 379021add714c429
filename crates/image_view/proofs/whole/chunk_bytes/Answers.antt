use Rattle.std.proofs.Common.{arith}
use Rattle.image_view.proofs.OneChunk.{uncovered_first, in_first, one_chunk, found_in}
use Rattle.image_view.proofs.whole.chunk_bytes.Goals as goal

pub returns-in_default : goal.returns-in_default
returns-in_default c = λ one. uncovered_first c.args.mem.now c.args.chunks.now c.args.from c.args.len c.in_default.ensures c.requires.some

pub returns-then-len-chunk : goal.returns-then-len-chunk
returns-then-len-chunk c = λ one.
    let lie = found_in c.args.chunks.now c.args.from c.in-Some.number c.in-Some.ensures in
    let whole = in_first c.args.mem.now c.args.chunks.now c.in-Some.number c.args.from c.args.len c.requires.rise c.in-Some.ensures c.requires.some one in
    absurd (omega (arith, lie, whole.1, c.if-len-chunk.true))

pub returns : goal.returns
returns c =
    let lie = found_in c.args.chunks.now c.args.from c.in-Some.number c.in-Some.ensures in
    one_chunk c.args.mem.now c.args.chunks.now c.in-Some.number c.args.from c.args.len c.src_bytes.result c.requires.rise c.in-Some.ensures (omega (arith, lie, c.if-len-chunk.false)) c.requires.some c.src_bytes.ensures
