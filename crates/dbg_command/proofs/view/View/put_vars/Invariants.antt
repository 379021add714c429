use Rattle.std.proofs.Common.{drop}
use Rattle.layout_values.specs.Contexts.{context_of}
use Rattle.dbg_command.specs.Lines.{IsVarLine}
use Rattle.dbg_command.proofs.InOrder.{Completes, IsFront}
use Rattle.dbg_command.proofs.view.View.put_vars.Given as goal

abbrev pub invariant-loop-var : goal.invariant-loop-var
invariant-loop-var l = IsFront l.fn.out l.out × Completes
    (IsVarLine (context_of l.self.set.now l.self.snap.now.mem l.self.width) l.self.snap.now l.self.depth) l.fn.out l.out (drop l.var-index l.vars)
    l.vars
