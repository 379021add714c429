-- Each line of a set has a text that no other line has.
use Rattle.std.proofs.Common.{◌≡◌, ◌∙◌, sym, ap, ℕ, ◌<◌, ◌^◌}
use Rattle.std.proofs.lemmas.Option.{same_Some}
use Rattle.layout_lines.specs.declared.line.Line.{Line}
use Rattle.layout_lines.specs.Lines.{line_text, IsLine}
use Rattle.layout_lines.specs.ReadLines.{line_of}
use Rattle.layout_lines.proofs.LineLaws.{line_of_text}
use Rattle.layout_lines.proofs.LineEnds.{text_has_no_end}
use Rattle.layout_builder.proofs.Following.{LinesAreKnown}

one_line : (next : ℕ) (a b : Line) → next < 2 ^ 32 → IsLine a → IsLine b → line_text next a ≡ line_text next b → a ≡ b
one_line next a b room is js e = same_Some a b (sym (line_of_text next a room is) ∙ ap (line_of next) e ∙ line_of_text next b room js)

pub lines_are_known : LinesAreKnown
lines_are_known = record { one_line = one_line; no_end = text_has_no_end }
