use Rattle.std.proofs.Common.{◌≡◌, drop}
use Rattle.layout_words.specs.Kinds.{named_in, place_word}
use Rattle.layout_words.proofs.place_words.place_kind_in.Given as goal

-- the rest of them finds what all of them find
abbrev pub invariant-loop-kind : goal.invariant-loop-kind
invariant-loop-kind l = named_in place_word (drop l.kind-index l.kinds) l.word ≡ named_in place_word l.kinds l.word
