use Rattle.std.proofs.Common.{drop}
use Rattle.std.specs.List.{filter}
use Rattle.layout_values.specs.Contexts.{context_of}
use Rattle.dbg_command.specs.Lines.{AreVarLines, is_entered}
use Rattle.dbg_command.proofs.InOrder.{Completes, IsFront}
use Rattle.dbg_command.proofs.view.View.put_scopes.Given as goal

abbrev pub invariant-loop-scope : goal.invariant-loop-scope
invariant-loop-scope l = IsFront l.fn.out l.out × Completes
    (AreVarLines (context_of l.self.set.now l.self.snap.now.mem l.self.width) l.self.snap.now l.self.depth) l.fn.out l.out
    (filter (is_entered l.self.snap.now.pc) (drop l.scope-index l.scopes)) (filter (is_entered l.self.snap.now.pc) l.scopes)
