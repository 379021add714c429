use Rattle.std.proofs.Common.{◌∙◌, ap}
use Rattle.layout_values.specs.Places.{given_if}
use Rattle.value_reader.proofs.ChunkItems.{of_memory}
use Rattle.value_reader.proofs.sources.of_place.Goals as goal

pub returns-in-Reg : goal.returns-in-Reg
returns-in-Reg c = λ n. rw c.in-Reg.is (c.of_bytes.ensures n c.args.snap.now ∙ ap (λ bytes. given_if bytes n) c.bytes.ensures)

pub returns-in-Fixed : goal.returns-in-Fixed
returns-in-Fixed c = λ n. rw c.in-Fixed.is (of_memory c.args.snap.now.mem c.in-Fixed.at n)
