use Rattle.std.proofs.Common.{◌++◌}
use Rattle.layout_words.specs.Spellings.{unescaped}
use Rattle.layout_words.proofs.Escapes.{all_unescaped}
use Rattle.layout_words.proofs.chars.unescape.Goals as goal

pub returns : goal.returns
returns c = all_unescaped c.loop-c.into.items c.loop-c.rest.now (c.args.into.now.items ++ unescaped c.args.text.now) c.in_default.ensures.cases c.loop-c.invariant
