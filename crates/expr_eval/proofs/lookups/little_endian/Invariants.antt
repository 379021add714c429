use Rattle.std.proofs.Common.{◌≡◌, ◌%◌, ◌^◌, drop}
use Rattle.expr_eval.specs.Results.{little_endian}
use Rattle.expr_eval.proofs.lookups.little_endian.Given as goal

-- the number of the bytes from place i on
abbrev pub invariant-loop-i : goal.invariant-loop-i
invariant-loop-i l = l.number ≡ little_endian (drop l.i l.bytes) % 2 ^ 64
