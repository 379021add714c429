use Rattle.std.proofs.Common.{◌≡◌, ◌<◌, drop, length, true}
use Rattle.expr_eval.specs.Results.{run, meaning}
use Rattle.expr_eval.specs.Invariant.{fits, height_after}
use Rattle.expr_eval.proofs.machine.eval.Given as goal

-- What is left to do from here is the whole, it fits the stack, and it leaves a number.
abbrev pub invariant-loop-op : goal.invariant-loop-op
invariant-loop-op l = record {
  rest : run 8 l.snap (drop l.op-index l.list) l.stack ≡ meaning 8 l.snap l.list;
  fits : fits (length l.stack) (drop l.op-index l.list) ≡ true;
  value : 0 < height_after (length l.stack) (drop l.op-index l.list);
}
