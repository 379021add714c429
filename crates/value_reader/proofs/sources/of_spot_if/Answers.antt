use Rattle.value_reader.proofs.ChunkItems.{of_missing}
use Rattle.value_reader.proofs.sources.of_spot_if.Goals as goal

pub returns-in-None : goal.returns-in-None
returns-in-None c = λ n snap. rw c.in-None.is (of_missing snap.mem n)
