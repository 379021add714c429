use Rattle.std.proofs.Common.{◌∙◌, ap, add-zero}
use Rattle.snapshot_file.specs.Memory.{items_at}
use Rattle.image_view.proofs.OneChunk.{memory_part}
use Rattle.image_view.proofs.image.Image.of_mem.Goals as goal

pub returns-clause-part : goal.returns-clause-part
returns-clause-part c = memory_part c.args.mem.now c.args.at 0 c.args.len ∙ ap (λ a. items_at c.args.mem.now a c.args.len) (add-zero c.args.at)
