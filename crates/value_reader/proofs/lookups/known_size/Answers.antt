-- A size at the set's pointer size is one at 8 bytes, and small.
use Rattle.std.proofs.Common.{◌∙◌, ap}
use Rattle.layout_set.specs.Sizes.{size}
use Rattle.layout_set.proofs.SizeSteps.{small_size, are_small, pointer_size}
use Rattle.value_reader.proofs.lookups.known_size.Goals as goal

pub returns-clause-value : goal.returns-clause-value
returns-clause-value c =
    let set = c.args.set.now in
    c.size_of.ensures.value ∙ ap (λ ptr. size ptr set.types c.args.ty) (pointer_size set c.requires.sizes.small)

pub returns-clause-small : goal.returns-clause-small
returns-clause-small c = rw c.size_of.ensures.value (small_size _ _ _ (are_small c.args.set.now c.requires.sizes.small))
