use Rattle.std.proofs.Common.{◌≡◌, take, drop}
use Rattle.names.specs.Reading.{prepend, word}
use Rattle.names.specs.Scan.{scanned}
use Rattle.names.proofs.word.word_end.Given as goal

-- the bytes so far belong to the word, which goes on as the scan says
abbrev pub invariant-loop-at : goal.invariant-loop-at
invariant-loop-at l = prepend (take l.at l.text) (scanned l.scan (drop l.at l.text)) ≡ word.read l.text
