use Rattle.std.proofs.Common.{◌∙◌, sym, ap, ◌++◌, ◌-◌, length, take, drop, Some}
use Rattle.std.specs.Str.{bytes_eq}
use Rattle.layout_words.specs.Spellings.{unescaped, raw_text}
use Rattle.layout_words.proofs.Escapes.{raw_short, raw_read, raw_other}
use Rattle.layout_words.proofs.chars.raw_of.Goals as goal

pub returns-then-text-lt2 : goal.returns-then-text-lt2
returns-then-text-lt2 c = raw_short c.args.text.now c.if-text-lt2.true

pub returns-then-branch : goal.returns-then-branch
returns-then-branch c =
    let text = c.args.text.now in
    let bytes = c.in_ok-unescape.ensures ∙ ap (λ xs. xs ++ unescaped (take (length text - 1 - 1) (drop 1 text))) c.new-bytes.ensures.items in
    let same = ap (λ b. bytes_eq text (raw_text b)) (sym c.deref.ensures.value) ∙ sym c.in_ok-has_raw_text.ensures ∙ c.if-branch.true in
    raw_read text c.unescape.new.into.items bytes same ∙ ap Some (sym c.from_vec.ensures)

pub returns-else-branch : goal.returns-else-branch
returns-else-branch c =
    let text = c.args.text.now in
    let bytes = c.in_ok-unescape.ensures ∙ ap (λ xs. xs ++ unescaped (take (length text - 1 - 1) (drop 1 text))) c.new-bytes.ensures.items in
    let other = ap (λ b. bytes_eq text (raw_text b)) (sym c.deref.ensures.value) ∙ sym c.in_ok-has_raw_text.ensures ∙ c.if-branch.false in
    raw_other text c.unescape.new.into.items bytes other
