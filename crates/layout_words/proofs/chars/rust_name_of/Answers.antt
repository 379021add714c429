use Rattle.layout_words.proofs.Spelled.{rust_name_some, rust_name_none}
use Rattle.layout_words.proofs.chars.rust_name_of.Goals as goal

pub returns-in-Ok : goal.returns-in-Ok
returns-in-Ok c = rust_name_some c.in-Ok.name c.args.text.now c.in-Ok.ensures

pub returns-in-Err-BadName : goal.returns-in-Err-BadName
returns-in-Err-BadName c = rust_name_none c.args.text.now (rw c.in-Err-BadName.field-0-is at c.in-Err-BadName.ensures).none
