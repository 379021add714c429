use Rattle.std.proofs.Common.{◌∙◌, sym, ap}
use Rattle.dwarf_variants.proofs.Lists.{listed_among, listed_below}
use Rattle.dwarf_variants.proofs.parts.is_any_listed.Goals as goal

pub loop-variant-init : goal.loop-variant-init
loop-variant-init c =
    listed_below c.args.part.now ∙ ap listed_among (sym (c.into_iter-variant-iterator.ensures.into_iter_gives ∙ c.variants_in-variant-items.ensures))
