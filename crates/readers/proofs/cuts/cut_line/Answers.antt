use Rattle.readers.proofs.Cutting.{parts_cut, parts_whole}
use Rattle.readers.proofs.cuts.cut_line.Goals as goal

pub returns-in-Some-clause-lines : goal.returns-in-Some-clause-lines
returns-in-Some-clause-lines c = parts_cut 10 c.args.bytes.now c.in-Some.line.now c.in-Some.rest.now c.in-Some.ensures

pub returns-in-None-clause-lines : goal.returns-in-None-clause-lines
returns-in-None-clause-lines c = parts_whole 10 c.args.bytes.now c.in-None.ensures
