use Rattle.std.proofs.Common.{arith}
use Rattle.std.proofs.lemmas.Grind.{common_steps}
use Rattle.std.proofs.lemmas.List.Elements.{All-map}
use Rattle.layout_lines.specs.declared.line.Line.TheVariants as lines
use Rattle.layout_lines.specs.Lines.{IsLine}
use Rattle.layout_writer.proofs.EachLine.{each_more, each_all}
use Rattle.layout_writer.proofs.func_writer.put_pieces.Goals as goal

-- one more line is put, and is a line
pub loop-piece-preserved : goal.loop-piece-preserved
loop-piece-preserved c =
    let l = c.loop-piece in
    let piece = c.piece-item in
    let pieces = c.args.pieces.now in
    record {
      put = grind (arith, common_steps);
      are_lines = each_more (λ p. IsLine (lines.Piece p)) pieces l.piece-index piece.result c.loop-piece-test.true piece.is c.in_ok-put_piece.ensures.line l.invariant.are_lines;
    }

-- all of them are lines
pub returns-clause-lines : goal.returns-clause-lines
returns-clause-lines c =
    let l = c.loop-piece in
    let pieces = c.args.pieces.now in
    All-map IsLine (λ p. lines.Piece p) pieces (each_all (λ p. IsLine (lines.Piece p)) pieces l.piece-index c.loop-piece-test.false l.invariant.are_lines)
