use Rattle.std.proofs.Common.{refl, ◌++◌, ◌∷◌, []}
use Rattle.layout_builder.specs.Additions.{with_field}
use Rattle.layout_builder.proofs.WithLast.{last_part_written}
use Rattle.layout_builder.proofs.type_addition.add_field_to_variants.Goals as goal

-- the last variant has the field
pub returns-in-Some : goal.returns-in-Some
returns-in-Some c =
    let variant = c.in-Some.variant.now in
    last_part_written c.push.result (with_field c.args.field) c.args.variants.now variant c.push.new.self (variant.fields ++ c.args.field ∷ [])
    (λ fields. record variant { fields = fields }) c.in-Some.ensures.item.1 refl c.push.ensures.last
