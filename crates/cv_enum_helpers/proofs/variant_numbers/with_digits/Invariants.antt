use Rattle.std.proofs.Common.{◌≡◌, ◌^◌, ◌-◌, drop}
use Rattle.cv_enum_helpers.specs.Digits.{whole_after}
use Rattle.cv_enum_helpers.proofs.variant_numbers.with_digits.Given as goal

-- the number with the digits that are left is that with all
abbrev pub invariant-loop-c : goal.invariant-loop-c
invariant-loop-c l = whole_after (2 ^ 32 - 1) l.number (drop l.c-index l.digits) ≡ whole_after (2 ^ 32 - 1) l.fn.number l.digits
