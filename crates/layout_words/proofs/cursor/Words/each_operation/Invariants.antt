use Rattle.std.proofs.Common.{◌≡◌, ◌+◌, ℕ, List, Option, Some, None, length}
use Rattle.std.specs.Borrow.{Bor}
use Rattle.layout_words.specs.PlaceSpellings.{operation}
use Rattle.layout_words.specs.Forms.{left_words, each_of}
use Rattle.layout_words.specs.Steps.{lent}
use Rattle.layout_words.proofs.WordLists.{onto}
use Rattle.layout_words.proofs.cursor.Words.each_operation.Given as goal

-- the items so far, and those of the words that are left
abbrev pub invariant-loop-left : goal.invariant-loop-left
invariant-loop-left l = onto l.ops (each_of operation (left_words (lent l.left))) ≡ each_of operation (left_words (lent l.initial.left))

abbrev room : Option (Bor (List ℕ)) → ℕ
room None = 0
room (Some line) = 1 + length line.now

abbrev pub decreases-loop-left : goal.decreases-loop-left
decreases-loop-left l = room l.left
