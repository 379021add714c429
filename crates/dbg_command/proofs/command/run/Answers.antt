use Rattle.std.proofs.Common.{inl, [], subst, IsSome, Err}
use Rattle.dbg_command.specs.Answers.{Answers}
use Rattle.dbg_command.specs.Forms.{form_of}
use Rattle.dbg_command.specs.Stops.{message}
use Rattle.dbg_command.specs.Runs.{Fits}
use Rattle.dbg_command.proofs.Endings.{ends_stop, ends_done}
use Rattle.rv_io.proofs.Fronts.{appends_nothing}
use Rattle.dbg_command.proofs.command.run.Goals as goal

pub returns-in-Ok-put : goal.returns-in-Ok-put
returns-in-Ok-put g c =
    let reads = g.I.Inputs.faults c.args.inputs.now in
    let read = g.I.Inputs.faults c.answer.new.inputs in
    let writes = g.O.Sink.faults c.args.out.now in
    let written = g.O.Sink.faults c.put.new.self in
    let words = c.args.words.now in
    let ends = ends_done (IsSome (form_of words)) (g.I.Inputs.files c.args.inputs.now) (Answers words) reads read writes written c.in-Ok.text (rw c.as_slice.ensures at c.in-Ok.ensures.result) (rw c.as_slice.ensures at c.in-Ok.ensures.form) in
    (c.in-Ok.text, [], ends, rw c.as_bytes.ensures at c.in-Ok-put.ensures.bytes, inl (appends_nothing (g.E.Sink.written c.args.err.now)))

pub returns : goal.returns
returns g c =
    let reads = g.I.Inputs.faults c.args.inputs.now in
    let read = g.I.Inputs.faults c.answer.new.inputs in
    let writes = g.O.Sink.faults c.args.out.now in
    let words = c.args.words.now in
    let ends = ends_stop (IsSome (form_of words)) (g.I.Inputs.files c.args.inputs.now) (Answers words) reads read writes writes c.in-Err.stop (rw c.as_slice.ensures at c.in-Err.ensures.result) (subst (λ w. Fits (IsSome (form_of w)) (Err c.in-Err.stop)) c.as_slice.ensures c.in-Err.ensures.form) in
    rw c.status.ensures ([], message c.in-Err.stop, ends, appends_nothing (g.O.Sink.written c.args.out.now), c.tell-in-Err.ensures)
