use Rattle.layout_set.proofs.SizeSteps.{are_small}
use Rattle.layout_set.proofs.SizeLevels.{size_is}
use Rattle.layout_set.proofs.sizes.size_of.Goals as goal

pub small_size-requires : goal.small_size-requires
small_size-requires c = rw c.as_slice.ensures (are_small c.args.set.now c.requires.sizes.small)

pub returns-clause-meaning : goal.returns-clause-meaning
returns-clause-meaning c = rw (c.small_size.ensures, c.as_slice.ensures) (size_is c.args.set.now c.args.ty c.requires.sizes.shallow c.requires.within)
