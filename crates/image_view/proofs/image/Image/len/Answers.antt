use Rattle.std.proofs.Common.{sym}
use Rattle.image_view.proofs.Ranges.{length_places}
use Rattle.image_view.proofs.image.Image.len.Goals as goal

pub returns : goal.returns
returns c = let s = c.self.inside in rw (← c.self.view_is) (sym (length_places s.mem.now s.source s.from s.len))
