use Rattle.dbg_command.proofs.Puts.{put_more, put_failed}
use Rattle.dbg_command.proofs.stop.put_parts.Goals as goal

pub returns-in_default : goal.returns-in_default
returns-in_default g c =
    put_failed c.args.parts.now c.loop-part.part-index _ (g.E.Sink.written c.args.err.now) (g.E.Sink.written c.loop-part.err) (g.E.Sink.written c.put.new.self)
    (g.E.Sink.faults c.args.err.now) (g.E.Sink.faults c.loop-part.err) (g.E.Sink.faults c.put.new.self) c.loop-part-test.true c.loop-part.invariant c.in_default.ensures.bytes c.in_default.ensures.cause

pub loop-part-preserved : goal.loop-part-preserved
loop-part-preserved g c =
    put_more c.args.parts.now c.loop-part.part-index _ (g.E.Sink.written c.args.err.now) (g.E.Sink.written c.loop-part.err) (g.E.Sink.written c.put.new.self)
    (g.E.Sink.faults c.args.err.now) (g.E.Sink.faults c.loop-part.err) (g.E.Sink.faults c.put.new.self) c.loop-part-test.true c.loop-part.invariant c.in-Ok.ensures.bytes c.in-Ok.ensures.later
