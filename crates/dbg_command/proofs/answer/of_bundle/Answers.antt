use Rattle.std.proofs.Common.{Ok, sym, subst}
use Rattle.bundle_reader.specs.Readings.{DescribesSet}
use Rattle.dbg_command.specs.Answers.{OfBundle, OfDescribed}
use Rattle.dbg_command.specs.Forms.{bundle_command}
use Rattle.dbg_command.specs.Runs.{Gives}
use Rattle.dbg_command.proofs.Entered.{fetched_gives}
use Rattle.dbg_command.proofs.answer.of_bundle.Goals as goal

pub returns-in-Ok-clause-result : goal.returns-in-Ok-clause-result
returns-in-Ok-clause-result g c =
    let command = bundle_command c.args.command in
    let set = c.in-Ok.set in
    let described = subst (λ b. DescribesSet b set) c.as_bytes.ensures c.in-Ok.ensures.set in
    let gives = subst (λ told. Gives told (λ files. OfDescribed command files set) (g.I.Inputs.faults c.fetch_file.new.inputs) (g.I.Inputs.faults c.of_described.new.inputs) c.of_described.result)
    c.fetch_file.ensures.files c.of_described.ensures.result in
    fetched_gives (g.I.Inputs.files c.args.inputs.now) c.args.name.now c.in_ok-bytes.bytes 536870912 (g.I.Inputs.faults c.args.inputs.now) (g.I.Inputs.faults c.fetch_file.new.inputs)
    (g.I.Inputs.faults c.of_described.new.inputs) (λ files bytes. OfBundle command files bytes) (λ files. OfDescribed command files set) c.of_described.result
    c.in_ok-bytes.ensures.result c.fetch_file.ensures.later (λ files s o m h. (Ok set, described, h)) gives
