use Rattle.std.proofs.Common.{◌≡◌, drop}
use Rattle.layout_rules.specs.LineRules.{lower, lowest_broken}
use Rattle.layout_words.specs.Steps.{lent}
use Rattle.layout_rules.proofs.lowest.lowest_broken.Given as goal

-- the lowest so far, and of what is left
abbrev pub invariant-loop-place : goal.invariant-loop-place
invariant-loop-place l = lower l.lowest (lowest_broken l.next (drop l.place-index l.places) (lent l.left)) ≡ lowest_broken l.next l.places (lent l.initial.left)
