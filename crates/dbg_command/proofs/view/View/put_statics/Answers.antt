use Rattle.layout_values.specs.Contexts.{context_of}
use Rattle.dbg_command.specs.Lines.{IsStaticLine}
use Rattle.dbg_command.proofs.InOrder.{front_put, next_at, ends_at}
use Rattle.dbg_command.proofs.view.View.put_statics.Goals as goal

pub loop-index-preserved : goal.loop-index-preserved
loop-index-preserved c =
    let a = c.args in
    let put = c.in_ok-put_static_at.ensures.put in (
      front_put a.out.now c.loop-index.out c.put_static_at.new.out put.0 c.loop-index.invariant.0 put.1,
      next_at (IsStaticLine (context_of a.self.now.set.now a.self.now.snap.now.mem a.self.now.width) a.self.now.depth) a.self.now.set.now.statics
          c.loop-index.index a.out.now c.loop-index.out c.put_static_at.new.out
          (rw c.as_slice-index-end.ensures at c.loop-index-test.true) c.loop-index.invariant.1 put,
    )

pub returns-clause-put : goal.returns-clause-put
returns-clause-put c =
    let a = c.args in
    ends_at (IsStaticLine (context_of a.self.now.set.now a.self.now.snap.now.mem a.self.now.width) a.self.now.depth) a.self.now.set.now.statics
    c.loop-index.index a.out.now c.loop-index.out
    (rw c.as_slice-index-end.ensures at c.loop-index-test.false) c.loop-index.invariant.1
