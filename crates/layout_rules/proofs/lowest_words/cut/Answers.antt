use Rattle.std.proofs.Common.{ap, sym}
use Rattle.layout_words.proofs.Cuts.{cut_parts}
use Rattle.layout_rules.proofs.lowest_words.cut.Goals as goal

pub returns-clause-first : goal.returns-clause-first
returns-clause-first c = ap (λ p. p.0) (sym (cut_parts c.args.line.now c.cut_word.result.0.now c.cut_word.result.1 c.cut_word.ensures.cut c.cut_word.ensures.whole))

pub returns-clause-left : goal.returns-clause-left
returns-clause-left c = ap (λ p. p.1) (sym (cut_parts c.args.line.now c.cut_word.result.0.now c.cut_word.result.1 c.cut_word.ensures.cut c.cut_word.ensures.whole))
