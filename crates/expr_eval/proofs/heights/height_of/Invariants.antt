use Rattle.std.proofs.Common.{◌≡◌, ◌≤◌, drop}
use Rattle.expr_eval.specs.Invariant.{fits, height_after}
use Rattle.expr_eval.proofs.heights.height_of.Given as goal

-- what is left fits from this height on if the whole fits an empty stack, and ends at the same height
abbrev pub invariant-loop-op : goal.invariant-loop-op
invariant-loop-op l = record {
  few : l.height ≤ 64;
  fits : fits l.height (drop l.op-index l.ops) ≡ fits 0 l.ops;
  after : height_after l.height (drop l.op-index l.ops) ≡ height_after 0 l.ops;
}
