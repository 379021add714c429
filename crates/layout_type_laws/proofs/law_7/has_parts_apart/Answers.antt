use Rattle.layout_set.specs.Law7.{HasPartsApart}
use Rattle.layout_type_laws.proofs.law_7.has_parts_apart.Goals as goal

pub returns-in-Enum : goal.returns-in-Enum
unfolding HasPartsApart
returns-in-Enum c = rw c.in-Enum.is (rw (← c.as_slice-in-Enum.ensures) c.variants_apart.ensures)
