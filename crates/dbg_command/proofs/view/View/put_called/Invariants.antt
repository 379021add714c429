use Rattle.std.proofs.Common.{drop}
use Rattle.std.specs.List.{filter}
use Rattle.layout_values.specs.Contexts.{context_of}
use Rattle.dbg_command.specs.Lines.{IsFuncText, is_called}
use Rattle.dbg_command.proofs.InOrder.{Completes, IsFront}
use Rattle.dbg_command.proofs.view.View.put_called.Given as goal

abbrev pub invariant-loop-func : goal.invariant-loop-func
invariant-loop-func l = IsFront l.fn.out l.out × Completes
    (IsFuncText (context_of l.self.set.now l.self.snap.now.mem l.self.width) l.self.snap.now l.self.depth) l.fn.out l.out
    (filter (is_called l.self.snap.now.pc) (drop l.func-index l.funcs)) (filter (is_called l.self.snap.now.pc) l.funcs)
