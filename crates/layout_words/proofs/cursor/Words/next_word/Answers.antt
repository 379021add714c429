use Rattle.std.proofs.Common.{◌≡◌, ◌∙◌, sym, ap, Some}
use Rattle.std.specs.Option.{option_map}
use Rattle.layout_words.specs.Forms.{next_word}
use Rattle.layout_words.proofs.Cuts.{cut_is}
use Rattle.layout_words.proofs.cursor.Words.next_word.Goals as goal

pub returns : goal.returns
returns c =
    let left : c.args.self.now ≡ Some c.in-Some.line.now = sym c.self.view_is ∙ ap (option_map (λ b. b.now)) c.in-Some.is in
    ap next_word left ∙ cut_is c.in-Some.line.now c.cut_word.result.0.now c.cut_word.result.1 c.cut_word.ensures.cut c.cut_word.ensures.whole
