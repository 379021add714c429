use Rattle.image_view.proofs.Chunks.{chunks_rise, last_lacks_at}
use Rattle.image_view.proofs.covering.covering.Goals as goal

pub begun-count-requires : goal.begun-count-requires
begun-count-requires c = chunks_rise 0 c.args.chunks.now c.requires

pub returns-else-place-chunk : goal.returns-else-place-chunk
returns-else-place-chunk c = last_lacks_at c.args.chunks.now c.args.place c.begun-count.result c.requires c.if-count-eq0.false c.begun-count.ensures.count c.begun-count.ensures.parted c.if-place-chunk.false
