use Rattle.std.proofs.Common.{ap, sym}
use Rattle.image_view.specs.Places.{Place}
use Rattle.image_view.proofs.Chunks.{uncovered_place, covered_item}
use Rattle.image_view.proofs.covering.chunk_item.Goals as goal

pub returns-in-None : goal.returns-in-None
returns-in-None c = sym (ap (λ (p : Place). p.item) (uncovered_place c.args.mem.now c.args.chunks.now 0 c.args.at c.in-None.ensures))

pub returns-in-Some : goal.returns-in-Some
returns-in-Some c = covered_item c.args.mem.now c.args.chunks.now c.in-Some.number c.args.at c.item_of.result c.requires c.in-Some.ensures c.item_of.ensures
