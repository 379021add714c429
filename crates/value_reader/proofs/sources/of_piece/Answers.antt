use Rattle.value_reader.proofs.ChunkItems.{of_missing}
use Rattle.value_reader.proofs.sources.of_piece.Goals as goal

pub returns-in-None : goal.returns-in-None
returns-in-None c = λ n. rw c.in-None.is (of_missing c.args.snap.now.mem n)
