use Rattle.layout_set.specs.Laws.{sound_laws}
use Rattle.cases.proofs.calls.sound_lines.Goals as goal

-- the first three laws of a sound set
pub lines-requires-clause-sizes : goal.lines-requires-clause-sizes
unfolding sound_laws
lines-requires-clause-sizes c = record { within = c.in_ok-check_sound.ensures 1; shallow = c.in_ok-check_sound.ensures 2; small = c.in_ok-check_sound.ensures 3 }
