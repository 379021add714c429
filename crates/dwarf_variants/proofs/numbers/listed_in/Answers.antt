use Rattle.std.proofs.Common.{◌∙◌, None, sym, ap}
use Rattle.dwarf_variants.specs.Ends.{ends_of}
use Rattle.dwarf_variants.proofs.Lists.{ends_after, ends_from_none, numbers_among, numbers_below}
use Rattle.dwarf_variants.proofs.numbers.listed_in.Goals as goal

pub loop-variant-init : goal.loop-variant-init
loop-variant-init c =
    let all = c.into_iter-variant-iterator.ensures.into_iter_gives ∙ c.variants_in-variant-items.ensures in (
      ends_from_none (numbers_among c.args.prim c.into_iter-variant-iterator.result) ∙ ap (λ l. ends_of (numbers_among c.args.prim l)) all
          ∙ ap ends_of (sym (numbers_below c.args.prim c.args.part.now)),
      tt,
    )
