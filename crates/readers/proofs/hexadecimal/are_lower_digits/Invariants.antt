use Rattle.std.proofs.Common.{◌≡◌, drop}
use Rattle.readers.specs.Hex.{are_lower_digits}
use Rattle.readers.proofs.hexadecimal.are_lower_digits.Given as goal

abbrev pub invariant-loop-c : goal.invariant-loop-c
invariant-loop-c l = are_lower_digits (drop l.c-index l.digits) ≡ are_lower_digits l.digits
