use Rattle.layout_values.specs.Contexts.{context_of}
use Rattle.dbg_command.specs.Lines.{IsVarLine}
use Rattle.dbg_command.proofs.InOrder.{front_put, next_of, ends_at}
use Rattle.dbg_command.proofs.view.View.put_vars.Goals as goal

pub loop-var-preserved : goal.loop-var-preserved
loop-var-preserved c =
    let a = c.args in
    let Is = IsVarLine (context_of a.self.now.set.now a.self.now.snap.now.mem a.self.now.width) a.self.now.snap.now a.self.now.depth in
    let put = c.in_ok-put_var.ensures.put in (
      front_put a.out.now c.loop-var.out c.put_var.new.out put.0 c.loop-var.invariant.0 put.1,
      next_of Is a.vars.now a.vars.now c.loop-var.var-index a.out.now c.loop-var.out c.put_var.new.out put.0 c.var-item.result
          c.loop-var-test.true c.var-item.is put.2 put.1 c.loop-var.invariant.1,
    )

pub returns-clause-put : goal.returns-clause-put
returns-clause-put c =
    let a = c.args in
    let Is = IsVarLine (context_of a.self.now.set.now a.self.now.snap.now.mem a.self.now.width) a.self.now.snap.now a.self.now.depth in
    ends_at Is a.vars.now c.loop-var.var-index a.out.now c.loop-var.out c.loop-var-test.false c.loop-var.invariant.1
