use Rattle.std.proofs.Common.{◌≡◌, ◌++◌, take, flat_map}
use Rattle.layout_words.specs.Spellings.{escape}
use Rattle.layout_words.proofs.chars.put_escapes.Given as goal

-- the bytes so far are put
abbrev pub invariant-loop-c : goal.invariant-loop-c
invariant-loop-c l = l.out ≡ l.fn.out ++ flat_map escape (take l.c-index l.bytes)
