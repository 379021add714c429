use Rattle.std.proofs.Common.{◌≡◌, ◌+◌, ◌∷◌, ◌∙◌, sym, ap, max, map, drop}
use Rattle.layout_set.specs.References.{variant_types}
use Rattle.layout_type_laws.specs.Heights.{greatest, height_at}
use Rattle.layout_type_laws.proofs.Chained.{greatest_more}
use Rattle.rv_io.proofs.Steps.{drop_step}
use Rattle.layout_type_laws.proofs.law_2.highest_of_variants.Goals as goal

pub loop-variant-preserved : goal.loop-variant-preserved
loop-variant-preserved c =
    let vs = c.args.variants.now in
    let i = c.loop-variant.variant-index in
    let v = c.variant-item.result in
    let h = height_at c.args.heights.now in
    let most = c.loop-variant.most in
    let parts : drop i vs ≡ v ∷ drop (i + 1) vs = drop_step vs i v c.loop-variant-test.true c.variant-item.is in
    rw (c.highest_field-most.ensures, c.as_slice.ensures) (greatest_more h most v (drop (i + 1) vs) ∙ ap (λ l. max most (greatest (map h (variant_types l)))) (sym parts) ∙ c.loop-variant.invariant)
