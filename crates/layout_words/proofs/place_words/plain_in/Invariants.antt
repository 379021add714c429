use Rattle.std.proofs.Common.{◌≡◌, drop}
use Rattle.layout_words.specs.Kinds.{named_in, plain_word}
use Rattle.layout_words.proofs.place_words.plain_in.Given as goal

-- the rest of them finds what all of them find
abbrev pub invariant-loop-op : goal.invariant-loop-op
invariant-loop-op l = named_in plain_word (drop l.op-index l.ops) l.word ≡ named_in plain_word l.ops l.word
