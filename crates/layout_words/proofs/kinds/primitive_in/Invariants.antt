use Rattle.std.proofs.Common.{◌≡◌, drop}
use Rattle.layout_words.specs.Kinds.{named_in, primitive_word}
use Rattle.layout_words.proofs.kinds.primitive_in.Given as goal

abbrev pub invariant-loop-primitive : goal.invariant-loop-primitive
invariant-loop-primitive l = named_in primitive_word (drop l.primitive-index l.primitives) l.word ≡ named_in primitive_word l.primitives l.word
