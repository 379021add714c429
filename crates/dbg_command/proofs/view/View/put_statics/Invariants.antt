use Rattle.std.proofs.Common.{drop}
use Rattle.layout_values.specs.Contexts.{context_of}
use Rattle.dbg_command.specs.Lines.{IsStaticLine}
use Rattle.dbg_command.proofs.InOrder.{Completes, IsFront}
use Rattle.dbg_command.proofs.view.View.put_statics.Given as goal

abbrev pub invariant-loop-index : goal.invariant-loop-index
invariant-loop-index l = IsFront l.fn.out l.out × Completes (IsStaticLine (context_of l.self.set.now l.self.snap.now.mem l.self.width) l.self.depth)
    l.fn.out l.out (drop l.index l.self.set.now.statics) l.self.set.now.statics
