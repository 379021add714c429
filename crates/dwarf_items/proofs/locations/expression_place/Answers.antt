use Rattle.std.proofs.Common.{length, ap, arith}
use Rattle.dwarf_entries.specs.Shapes.{Sections}
use Rattle.dwarf_dies.specs.Attributes.{attribute_kept}
use Rattle.dwarf_items.proofs.Places.{place_outside}
use Rattle.dwarf_items.proofs.locations.expression_place.Goals as goal

pub returns-then-attribute-info : goal.returns-then-attribute-info
returns-then-attribute-info c =
    let same = ap (λ (s : Sections). length s.info) c.sections.ensures in
    let past = c.if-attribute-info.true in
    place_outside c.args.die.now.info (attribute_kept c.args.attribute) (omega (arith, past, same))
