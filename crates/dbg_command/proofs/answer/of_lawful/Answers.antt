use Rattle.std.proofs.Common.{sym, subst}
use Rattle.layout_set.specs.Laws.{sound_laws}
use Rattle.dbg_command.specs.Answers.{OfLawful}
use Rattle.dbg_command.specs.Forms.{layout_command}
use Rattle.dbg_command.specs.Runs.{Gives}
use Rattle.dbg_command.specs.declared.form.LayoutCommand.{LayoutCommand}
use Rattle.dbg_command.proofs.answer.of_lawful.Goals as goal

-- the first three laws of a lawful set
pub of_text-requires-clause-sizes : goal.of_text-requires-clause-sizes
unfolding sound_laws
of_text-requires-clause-sizes g c = record { within = c.requires.lawful 1; shallow = c.requires.lawful 2; small = c.requires.lawful 3 }

pub returns-in-Emit-clause-result : goal.returns-in-Emit-clause-result
returns-in-Emit-clause-result g c =
    let told = g.I.Inputs.files c.args.inputs.now in
    let faults = g.I.Inputs.faults c.args.inputs.now in
    subst (λ (k : LayoutCommand). Gives told (λ files. OfLawful (layout_command k) files c.args.set.now) faults faults c.of_emit.result) (sym c.in-Emit.is)
    (c.of_emit.ensures.result told faults faults)
