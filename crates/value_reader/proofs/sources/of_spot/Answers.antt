use Rattle.value_reader.proofs.ChunkItems.{of_memory}
use Rattle.value_reader.proofs.sources.of_spot.Goals as goal

pub returns-in-Address : goal.returns-in-Address
returns-in-Address c = λ n snap. rw c.in-Address.is (of_memory snap.mem c.in-Address.at n)
