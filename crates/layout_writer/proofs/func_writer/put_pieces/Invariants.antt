use Rattle.std.proofs.Common.{◌≡◌, ◌++◌, map, take}
use Rattle.std.specs.List.{flat_map, All}
use Rattle.layout_lines.specs.declared.line.Line.TheVariants as lines
use Rattle.layout_lines.specs.Sets.{part_text}
use Rattle.layout_lines.specs.Lines.{IsLine}
use Rattle.layout_writer.proofs.func_writer.put_pieces.Given as goal

-- the lines so far are put, and are lines
abbrev pub invariant-loop-piece : goal.invariant-loop-piece
invariant-loop-piece l = record {
  put : l.out ≡ l.initial.out ++ flat_map part_text (map (λ p. lines.Piece p) (take l.piece-index l.pieces));
  are_lines : All (λ p. IsLine (lines.Piece p)) (take l.piece-index l.pieces);
}
