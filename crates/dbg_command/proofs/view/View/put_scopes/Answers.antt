use Rattle.std.proofs.Common.{sym}
use Rattle.std.specs.List.{filter}
use Rattle.layout_values.specs.Contexts.{context_of}
use Rattle.dbg_command.specs.Lines.{AreVarLines, is_entered}
use Rattle.dbg_command.proofs.InOrder.{front_put, next_kept, next_passed, ends_kept}
use Rattle.dbg_command.proofs.view.View.put_scopes.Goals as goal
use Rattle.dbg_command.proofs.view.View.put_scopes.Goals.{then-is_entered+in_ok-put_vars, else-is_entered}

pub loop-scope-preserved : goal.loop-scope-preserved
loop-scope-preserved c =
    let a = c.args in
    let x = c.scope-item.result in
    let Is = AreVarLines (context_of a.self.now.set.now a.self.now.snap.now.mem a.self.now.width) a.self.now.snap.now a.self.now.depth in
    let keep = is_entered a.self.now.snap.now.pc in
    let i = c.loop-scope.scope-index in
    elim c.if-is_entered.branch [
      | then-is_entered+in_ok-put_vars w ↦
          let put = w.in_ok-put_vars.ensures.put in
          rw w.out-is (
            front_put a.out.now c.loop-scope.out w.put_vars.new.out put.0 c.loop-scope.invariant.0 put.1,
            next_kept Is keep a.scopes.now (filter keep a.scopes.now) i a.out.now c.loop-scope.out w.put_vars.new.out put.0 x
                c.loop-scope-test.true c.scope-item.is (sym w.if-is_entered.ensures) (rw w.as_slice.ensures at put.2) put.1 c.loop-scope.invariant.1,
          )
      | else-is_entered w ↦
          rw w.out-is (
            c.loop-scope.invariant.0,
            next_passed Is keep a.scopes.now (filter keep a.scopes.now) i a.out.now c.loop-scope.out x
                c.loop-scope-test.true c.scope-item.is (sym w.if-is_entered.ensures) c.loop-scope.invariant.1,
          )
    ]

pub returns-clause-put : goal.returns-clause-put
returns-clause-put c =
    let a = c.args in
    let keep = is_entered a.self.now.snap.now.pc in
    ends_kept (AreVarLines (context_of a.self.now.set.now a.self.now.snap.now.mem a.self.now.width) a.self.now.snap.now a.self.now.depth) keep
    a.scopes.now (filter keep a.scopes.now) c.loop-scope.scope-index a.out.now c.loop-scope.out
    c.loop-scope-test.false c.loop-scope.invariant.1
