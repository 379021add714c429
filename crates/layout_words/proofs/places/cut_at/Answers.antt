use Rattle.std.proofs.Common.{sym, ap}
use Rattle.layout_words.proofs.Separators.{cut_is, cut_whole}
use Rattle.layout_words.proofs.places.cut_at.Goals as goal

pub returns-in-Some-clause-front : goal.returns-in-Some-clause-front
returns-in-Some-clause-front c = ap (λ p. p.0) (sym (cut_is c.args.separator c.args.text.now c.in-Some.front.now c.in-Some.behind.now c.in-Some.ensures))

pub returns-in-Some-clause-behind : goal.returns-in-Some-clause-behind
returns-in-Some-clause-behind c = ap (λ p. p.1) (sym (cut_is c.args.separator c.args.text.now c.in-Some.front.now c.in-Some.behind.now c.in-Some.ensures))

pub returns-in-None-clause-front : goal.returns-in-None-clause-front
returns-in-None-clause-front c = ap (λ p. p.0) (sym (cut_whole c.args.separator c.args.text.now c.in-None.ensures))

pub returns-in-None-clause-behind : goal.returns-in-None-clause-behind
returns-in-None-clause-behind c = ap (λ p. p.1) (sym (cut_whole c.args.separator c.args.text.now c.in-None.ensures))
