use Rattle.std.proofs.Common.{◌≡◌, ◌++◌, length}
use Rattle.layout_words.specs.Spellings.{unescaped}
use Rattle.layout_words.proofs.chars.unescape.Given as goal

-- the bytes so far, and those that are left
abbrev pub invariant-loop-c : goal.invariant-loop-c
invariant-loop-c l = l.into.items ++ unescaped l.rest ≡ l.initial.into.items ++ unescaped l.initial.rest

abbrev pub decreases-loop-c : goal.decreases-loop-c
decreases-loop-c l = length l.rest
