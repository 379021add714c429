use Rattle.readers.proofs.Cutting.{parts_cut, parts_whole}
use Rattle.readers.proofs.cuts.cut_word.Goals as goal

pub returns-in-Some-clause-words : goal.returns-in-Some-clause-words
returns-in-Some-clause-words c = parts_cut 32 c.args.line.now c.in-Some.word.now c.in-Some.rest.now c.in-Some.ensures

pub returns-in-None-clause-words : goal.returns-in-None-clause-words
returns-in-None-clause-words c = parts_whole 32 c.args.line.now c.in-None.ensures
