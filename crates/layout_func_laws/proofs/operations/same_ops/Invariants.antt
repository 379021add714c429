use Rattle.std.proofs.Common.{◌≡◌, ℕ, ◌<◌, get_or}
use Rattle.expr_eval.specs.declared.operation.Op.{Op}
use Rattle.layout_func_laws.proofs.operations.same_ops.Given as goal

abbrev pub invariant-loop-i : goal.invariant-loop-i
invariant-loop-i l = (j : ℕ) (d : Op) → j < l.i → get_or l.a j d ≡ get_or l.b j d
