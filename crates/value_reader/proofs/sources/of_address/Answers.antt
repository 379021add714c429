use Rattle.value_reader.proofs.ChunkItems.{of_memory, of_missing}
use Rattle.value_reader.proofs.sources.of_address.Goals as goal

pub returns-in-Some : goal.returns-in-Some
returns-in-Some c = λ n snap. rw c.in-Some.is (of_memory snap.mem c.in-Some.at n)

pub returns-in-None : goal.returns-in-None
returns-in-None c = λ n snap. rw c.in-None.is (of_missing snap.mem n)
