use Rattle.std.proofs.Common.{◌≡◌, ◌+◌, ℕ, List, Option, Some, None, length}
use Rattle.std.specs.Borrow.{Bor}
use Rattle.layout_rules.specs.LineRules.{lower, lowest_of, broken_zone}
use Rattle.layout_words.specs.Forms.{words, left_words}
use Rattle.layout_words.specs.Steps.{lent}
use Rattle.layout_rules.proofs.lowest_words.broken_zones.Given as goal

-- the lowest so far, and of the words that are left
abbrev pub invariant-loop-left : goal.invariant-loop-left
invariant-loop-left l = lower l.lowest (lowest_of broken_zone (left_words (lent l.left))) ≡ lowest_of broken_zone (words l.fn.line)

abbrev room : Option (Bor (List ℕ)) → ℕ
room None = 0
room (Some line) = 1 + length line.now

abbrev pub decreases-loop-left : goal.decreases-loop-left
decreases-loop-left l = room l.left
