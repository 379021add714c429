use Rattle.std.specs.List.{AllWithin}
use Rattle.layout_set.specs.Law13.{IsPiece}
use Rattle.layout_func_laws.proofs.pieces.are_pieces.Given as goal

abbrev pub invariant-loop-piece : goal.invariant-loop-piece
invariant-loop-piece l = AllWithin IsPiece l.pieces 0 l.piece-index
