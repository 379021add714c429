use Rattle.std.proofs.Common.{◌≡◌, drop}
use Rattle.layout_words.specs.Kinds.{named_in, numbered_word}
use Rattle.layout_words.proofs.place_words.numbered_in.Given as goal

-- the rest of them finds what all of them find
abbrev pub invariant-loop-kind : goal.invariant-loop-kind
invariant-loop-kind l = named_in numbered_word (drop l.kind-index l.kinds) l.word ≡ named_in numbered_word l.kinds l.word
