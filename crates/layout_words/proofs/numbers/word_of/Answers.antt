use Rattle.layout_words.proofs.Spelled.{word_some, word_none}
use Rattle.layout_words.proofs.numbers.word_of.Goals as goal

pub returns-in-Ok : goal.returns-in-Ok
returns-in-Ok c = word_some c.in-Ok.word c.args.word.now c.in-Ok.ensures

pub returns-in-Err-BadName : goal.returns-in-Err-BadName
returns-in-Err-BadName c = word_none c.args.word.now (rw c.in-Err-BadName.field-0-is at c.in-Err-BadName.ensures).none
