use Rattle.std.proofs.Common.{◌≡◌, drop}
use Rattle.expr_eval.specs.Invariant.{value_is_last}
use Rattle.expr_eval.proofs.checks.value_is_last.Given as goal

-- no operation so far stands where it may not
abbrev pub invariant-loop-i : goal.invariant-loop-i
invariant-loop-i l = value_is_last (drop l.i l.ops) ≡ value_is_last l.ops
