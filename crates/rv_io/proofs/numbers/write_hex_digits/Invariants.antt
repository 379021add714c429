use Rattle.std.proofs.Common.{◌≡◌, ◌+◌, ◌-◌, ◌≤◌, ◌<◌, ◌^◌, ◌++◌, length, drop, false}
use Rattle.std.specs.Fmt.{digits}
use Rattle.rv_io.proofs.numbers.write_hex_digits.Given as goal

-- the digits of what is left stand before those that are written, and there is room for them
abbrev pub invariant-loop-left : goal.invariant-loop-left
invariant-loop-left l =
    (2 ≤ l.at) × (l.at < 18) × (length l.text ≡ 18) × (l.left < 16 ^ (l.at - 1)) × (digits 16 false l.left ++ drop (l.at + 1) l.text ≡ digits 16 false l.number)

abbrev pub decreases-loop-left : goal.decreases-loop-left
decreases-loop-left l = l.left
