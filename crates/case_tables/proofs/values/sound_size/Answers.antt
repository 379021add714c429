use Rattle.layout_set.specs.Laws.{sound_laws}
use Rattle.case_tables.proofs.values.sound_size.Goals as goal

-- the first three laws of a sound set
pub size_of-requires-clause-sizes : goal.size_of-requires-clause-sizes
unfolding sound_laws
size_of-requires-clause-sizes c = record { within = c.in-Ok.ensures 1; shallow = c.in-Ok.ensures 2; small = c.in-Ok.ensures 3 }
