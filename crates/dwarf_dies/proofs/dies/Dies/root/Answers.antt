use Rattle.std.proofs.Common.{refl}
use Rattle.dwarf_dies.proofs.Parents.{up_bases}
use Rattle.dwarf_dies.proofs.dies.Dies.root.Goals as goal

pub loop-up-init : goal.loop-up-init
loop-up-init c d h = (d, (h, refl))

pub loop-up-preserved : goal.loop-up-preserved
loop-up-preserved c = up_bases c.args.self.now c.args.number c.loop-up.at c.in-Some.up c.in-Some.ensures.owner c.loop-up.invariant
