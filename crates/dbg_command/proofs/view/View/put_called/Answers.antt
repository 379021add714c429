use Rattle.std.proofs.Common.{sym}
use Rattle.std.specs.List.{filter}
use Rattle.layout_values.specs.Contexts.{context_of}
use Rattle.dbg_command.specs.Lines.{IsFuncText, is_called}
use Rattle.dbg_command.proofs.InOrder.{front_put, next_kept, next_passed, ends_kept}
use Rattle.dbg_command.proofs.view.View.put_called.Goals as goal
use Rattle.dbg_command.proofs.view.View.put_called.Goals.{then-is_called+in_ok-put_func, else-is_called}

pub loop-func-preserved : goal.loop-func-preserved
loop-func-preserved c =
    let a = c.args in
    let x = c.func-item.result in
    let Is = IsFuncText (context_of a.self.now.set.now a.self.now.snap.now.mem a.self.now.width) a.self.now.snap.now a.self.now.depth in
    let keep = is_called a.self.now.snap.now.pc in
    let i = c.loop-func.func-index in
    elim c.if-is_called.branch [
      | then-is_called+in_ok-put_func w ↦
          let put = w.in_ok-put_func.ensures.put in
          rw w.out-is (
            front_put a.out.now c.loop-func.out w.put_func.new.out put.0 c.loop-func.invariant.0 put.1,
            next_kept Is keep a.funcs.now (filter keep a.funcs.now) i a.out.now c.loop-func.out w.put_func.new.out put.0 x
                c.loop-func-test.true c.func-item.is (sym w.if-is_called.ensures) put.2 put.1 c.loop-func.invariant.1,
          )
      | else-is_called w ↦
          rw w.out-is (
            c.loop-func.invariant.0,
            next_passed Is keep a.funcs.now (filter keep a.funcs.now) i a.out.now c.loop-func.out x
                c.loop-func-test.true c.func-item.is (sym w.if-is_called.ensures) c.loop-func.invariant.1,
          )
    ]

pub returns-clause-put : goal.returns-clause-put
returns-clause-put c =
    let a = c.args in
    let keep = is_called a.self.now.snap.now.pc in
    ends_kept (IsFuncText (context_of a.self.now.set.now a.self.now.snap.now.mem a.self.now.width) a.self.now.snap.now a.self.now.depth) keep
    a.funcs.now (filter keep a.funcs.now) c.loop-func.func-index a.out.now c.loop-func.out
    c.loop-func-test.false c.loop-func.invariant.1
