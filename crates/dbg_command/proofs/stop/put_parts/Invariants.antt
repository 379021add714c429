use Rattle.dbg_command.specs.Progress.{HasPut}
use Rattle.dbg_command.proofs.stop.put_parts.Given as goal

abbrev pub invariant-loop-part : goal.invariant-loop-part
invariant-loop-part g l = HasPut l.parts l.part-index (g.E.Sink.written l.fn.err) (g.E.Sink.written l.err) (g.E.Sink.faults l.fn.err) (g.E.Sink.faults l.err)
