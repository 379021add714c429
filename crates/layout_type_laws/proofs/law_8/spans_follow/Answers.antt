use Rattle.std.proofs.Common.{◌≤◌, ◌∙◌, sym, subst}
use Rattle.std.specs.List.{All}
use Rattle.layout_set.proofs.ExactNumbers.{exact_below}
use Rattle.layout_type_laws.proofs.law_8.spans_follow.Goals as goal

pub all_follow-requires : goal.all_follow-requires
all_follow-requires c =
    subst (All (λ n. n ≤ c.greatest_number-greatest.result)) (sym (c.as_slice.ensures.value ∙ c.in_ok-numbers.ensures))
    (exact_below 8 c.args.tag.prim c.greatest_number-greatest.result c.args.variants.now c.greatest_number-greatest.ensures c.requires.1)
