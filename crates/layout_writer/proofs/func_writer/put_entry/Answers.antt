use Rattle.std.proofs.Common.{◌≡◌, ◌∙◌, sym, ap}
use Rattle.std.proofs.lemmas.Result.{on_ok_weaker}
use Rattle.layout_set.specs.declared.func.Loc.TheVariants.{Pieces}
use Rattle.layout_writer.proofs.FuncLines.{pieces_have_lines}
use Rattle.layout_writer.proofs.func_writer.put_entry.Goals as goal

-- the line that counts the pieces, and theirs
pub returns-in_ok-put_count-in-Pieces-clause-lines : goal.returns-in_ok-put_count-in-Pieces-clause-lines
returns-in_ok-put_count-in-Pieces-clause-lines c =
    let entry = c.args.entry.now in
    let pieces = c.as_slice-pieces.result.now in
    let is : entry.loc ≡ Pieces pieces = c.in-Pieces.is ∙ ap (λ p. Pieces p) (sym c.as_slice-pieces.ensures) in
    on_ok_weaker c.put_pieces.result (pieces_have_lines entry pieces is c.in_ok-put_count-in-Pieces.ensures.line) c.put_pieces.ensures.lines
