use Rattle.std.proofs.Common.{◌≡◌, drop}
use Rattle.layout_words.specs.Kinds.{named_in, pointer_word}
use Rattle.layout_words.proofs.kinds.pointer_in.Given as goal

abbrev pub invariant-loop-kind : goal.invariant-loop-kind
invariant-loop-kind l = named_in pointer_word (drop l.kind-index l.kinds) l.word ≡ named_in pointer_word l.kinds l.word
