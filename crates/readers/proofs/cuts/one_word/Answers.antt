use Rattle.readers.proofs.Cutting.{not_only}
use Rattle.readers.proofs.cuts.one_word.Goals as goal

pub returns-in_default-Some : goal.returns-in_default-Some
returns-in_default-Some c =
    let parts = rw c.in_default-Some.is-1 at c.cut_word.ensures.words in
    not_only c.args.line.now c.cut_word.result.0.now c.in_default-Some.field-0-1.now parts
