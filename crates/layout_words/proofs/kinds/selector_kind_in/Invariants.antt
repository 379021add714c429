use Rattle.std.proofs.Common.{◌≡◌, drop}
use Rattle.layout_words.specs.Kinds.{named_in, selector_word}
use Rattle.layout_words.proofs.kinds.selector_kind_in.Given as goal

abbrev pub invariant-loop-kind : goal.invariant-loop-kind
invariant-loop-kind l = named_in selector_word (drop l.kind-index l.kinds) l.word ≡ named_in selector_word l.kinds l.word
