use Rattle.dbg_command.proofs.SomeEnding.{some_ending}
use Rattle.dbg_command.proofs.laws.a_run_has_an_ending.Goals as goal

pub returns : goal.returns
returns c = some_ending c.layouts_have_a_reading.ensures c.snapshots_have_a_reading.ensures c.bundles_have_a_reading.ensures
