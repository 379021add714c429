use Rattle.std.proofs.Common.{◌≡◌, ◌∙◌, sym, ap, Some, None}
use Rattle.layout_words.specs.PlaceSpellings.{zone, zone_of}
use Rattle.layout_words.specs.Forms.{cut, each_of, left_words}
use Rattle.layout_words.specs.Steps.{lent}
use Rattle.layout_words.proofs.Cuts.{cut_parts}
use Rattle.layout_words.proofs.WordLists.{onto, each_step, each_stop, lent_map}
use Rattle.layout_words.proofs.cursor.Words.zones.Goals as goal

-- a word that is no zone
pub returns-in_default-zone_of : goal.returns-in_default-zone_of
returns-in_default-zone_of c =
    let items = c.loop-left.zones in
    let line = c.in-Some.line.now in
    let word = c.cut_word.result.0.now in
    let rest = c.cut_word.result.1 in
    let parted : cut line ≡ (word, lent rest) = cut_parts line word rest c.cut_word.ensures.cut c.cut_word.ensures.whole in
    let none : zone_of word ≡ None = sym c.zone_of.ensures ∙ c.in_default-zone_of.is in
    ap (λ l. each_of zone (left_words l)) (sym c.self.view_is ∙ lent_map c.self.inside.left)
    ∙ sym c.loop-left.invariant
    ∙ ap (λ l. onto items (each_of zone (left_words (lent l)))) c.in-Some.is
    ∙ each_stop zone items line word (lent rest) parted none

-- a word more
pub loop-left-preserved : goal.loop-left-preserved
loop-left-preserved c =
    let items = c.loop-left.zones in
    let line = c.in-Some.line.now in
    let word = c.cut_word.result.0.now in
    let rest = c.cut_word.result.1 in
    let parted : cut line ≡ (word, lent rest) = cut_parts line word rest c.cut_word.ensures.cut c.cut_word.ensures.whole in
    let item : zone_of word ≡ Some c.in-Some-zone_of.zone = sym c.zone_of.ensures ∙ c.in-Some-zone_of.is in
    ap (λ xs. onto xs (each_of zone (left_words (lent rest)))) c.in_ok-push.ensures.last
    ∙ each_step zone items line word (lent rest) c.in-Some-zone_of.zone parted item
    ∙ ap (λ l. onto items (each_of zone (left_words (lent l)))) (sym c.in-Some.is)
    ∙ c.loop-left.invariant
