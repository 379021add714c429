use Rattle.layout_set.specs.Laws.{sound_laws}
use Rattle.dbg_command.proofs.answer.of_described.Goals as goal

-- the first three laws of a sound set
pub of_text-requires-clause-sizes : goal.of_text-requires-clause-sizes
unfolding sound_laws
of_text-requires-clause-sizes g c = record { within = c.requires.sound 1; shallow = c.requires.sound 2; small = c.requires.sound 3 }
