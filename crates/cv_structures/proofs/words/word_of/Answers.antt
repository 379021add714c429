-- A text that is a word is read as one.
use Rattle.std.proofs.Common.{◌≡◌, ◌∙◌, true, false}
use Rattle.cv_fields.proofs.ProperNames.{no_word}
use Rattle.cv_structures.proofs.words.word_of.Goals as goal

pub unreachable-requires : goal.unreachable-requires
unreachable-requires c =
    let bad = rw c.in-Err-BadName.field-0-is at c.in-Err-BadName.ensures in
    let clash : false ≡ true = no_word c.args.text.now _ bad ∙ c.requires in
    absurd (cc)
