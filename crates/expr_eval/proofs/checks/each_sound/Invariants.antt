use Rattle.std.proofs.Common.{◌≡◌, drop}
use Rattle.expr_eval.specs.Invariant.{each_sound}
use Rattle.expr_eval.proofs.checks.each_sound.Given as goal

-- each operation so far is sound
abbrev pub invariant-loop-op : goal.invariant-loop-op
invariant-loop-op l = each_sound (drop l.op-index l.ops) ≡ each_sound l.ops
