use Rattle.std.proofs.Common.{refl}
use Rattle.layout_builder.specs.Additions.{with_part}
use Rattle.layout_builder.proofs.WithLast.{last_part_written}
use Rattle.layout_builder.proofs.type_addition.add_part.Goals as goal

-- the last type has the part
pub returns-in-Some : goal.returns-in-Some
returns-in-Some c =
    let def = c.in-Some.def.now in
    last_part_written c.add_part_of_type.result (with_part c.args.part) c.args.types.now def c.add_part_of_type.new.def (with_part c.args.part def)
    (λ written. written) c.in-Some.ensures.item.1 refl c.add_part_of_type.ensures
