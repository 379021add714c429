-- The text of a set with one line more.
use Rattle.std.proofs.Common.{◌≡◌, ◌∙◌, sym, ap, refl, ℕ, ◌+◌, List, [], ◌∷◌, ◌++◌, length, map, append_assoc, Option, Some, None, arith}
use Rattle.std.proofs.lemmas.List.{append-nil}
use Rattle.std.specs.List.{flat_map}
use Rattle.readers.specs.Lines.{with_end}
use Rattle.layout_set.specs.declared.func.Func.{Func}
use Rattle.layout_set.specs.declared.func.Loc.{Loc}
use Rattle.layout_set.specs.declared.func.Loc.TheVariants.{Whole, Pieces}
use Rattle.layout_set.specs.declared.func.Piece.{Piece}
use Rattle.layout_set.specs.declared.func.Scope.{Scope}
use Rattle.layout_set.specs.declared.func.Var.{Var}
use Rattle.layout_set.specs.declared.set.Set.{Set}
use Rattle.layout_lines.specs.declared.open_entry.OpenEntry.{OpenEntry}
use Rattle.layout_lines.specs.declared.line.Line.{Line}
use Rattle.layout_lines.specs.declared.line.Line.TheVariants as lines
use Rattle.layout_lines.specs.Lines.{line_text}
use Rattle.layout_lines.specs.Sets.{
  type_lines,
  loc_lines,
  entry_lines,
  var_lines,
  scope_lines,
  func_lines,
  open_lines,
  lines_of,
  lines_before,
  texts,
  number_after,
  part_text,
  layout_text,
  text_before,
  head_text,
}
use Rattle.layout_builder.specs.Additions.{Draft}
use Rattle.layout_lines.proofs.Texts.{HasNoNumber, no_line, both, number_behind, texts-append, number_behind-append, number_behind_types, of_statics}
use Rattle.layout_builder.proofs.Adding.{Advance}
use Rattle.layout_lines.proofs.FuncTexts.{text_before_is, number_before}

-- the text with one line more
pub advance_text : (set : Set) (open_entry : Option OpenEntry) (l : Line) (d : Draft) → Advance set open_entry l d
    → text_before d.0 d.1 ≡ text_before set open_entry ++ with_end (line_text (length set.types) l)
advance_text set open_entry l d a =
    let head = head_text set.target.ptr in
    let before = texts 0 (lines_before set open_entry) in
    let line = with_end (line_text (length set.types) l) in
    text_before_is d.0 d.1
    ∙ ap (λ t. head_text t.ptr ++ texts 0 (lines_before d.0 d.1)) a.target
    ∙ ap (λ ls. head ++ texts 0 ls) a.lines
    ∙ ap (λ t. head ++ t) (texts-append 0 (lines_before set open_entry) (l ∷ []))
    ∙ ap (λ n. head ++ (before ++ (with_end (line_text n l) ++ []))) (number_before set open_entry)
    ∙ ap (λ t. head ++ (before ++ t)) (append-nil line)
    ∙ sym (append_assoc head before line)
    ∙ ap (λ t. t ++ line) (sym (text_before_is set open_entry))
