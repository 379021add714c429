use Rattle.layout_set.specs.Laws.{sound_laws}
use Rattle.case_tables.proofs.values.held_text.Goals as goal

-- the first three laws of a sound set
pub read_in-requires-clause-sizes : goal.read_in-requires-clause-sizes
unfolding sound_laws
read_in-requires-clause-sizes c = record { within = c.in-Ok.ensures 1; shallow = c.in-Ok.ensures 2; small = c.in-Ok.ensures 3 }
