use Rattle.image_view.proofs.OneChunk.{one_memory}
use Rattle.image_view.proofs.whole.whole_bytes.Goals as goal

pub returns-in-Memory : goal.returns-in-Memory
returns-in-Memory c = rw c.in-Memory.is (one_memory c.args.mem.now c.in-Memory.at c.args.from c.args.len c.memory_bytes.result c.memory_bytes.ensures)
