use Rattle.dbg_command.proofs.OneEnding.{Below}
use Rattle.dbg_command.proofs.OneEnding.{one_ending}
use Rattle.dbg_command.proofs.laws.a_run_has_one_ending.Goals as goal

pub returns : goal.returns
returns c =
    let below : Below = record {
      one_set = c.layouts_have_one_reading.ensures.set;
      layout_spelled = c.layouts_have_one_reading.ensures.spelled;
      layout_fault = c.layouts_have_one_reading.ensures.error;
      one_snapshot = c.snapshots_have_one_reading.ensures.snapshot;
      snapshot_spelled = c.snapshots_have_one_reading.ensures.spelled;
      snapshot_fault = c.snapshots_have_one_reading.ensures.error;
      one_bundle = c.bundles_have_one_reading.ensures;
      one_value = c.one_value.ensures;
      one_breach = c.a_set_has_at_most_one_first_breach.ensures.lawful;
    } in
    one_ending below
