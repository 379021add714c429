use Rattle.layout_set.specs.Laws.{sound_laws}
use Rattle.layout_set.proofs.Firsts.{checks_say}
use Rattle.layout_model.proofs.Rows.{sound_rises}
use Rattle.layout_model.proofs.checks.check_sound.Goals as goal

pub returns : goal.returns
returns c = checks_say c.args.set.now (sound_laws c.args.set.now) c.check_sound_laws.result (sound_rises c.args.set.now) c.check_sound_laws.ensures
