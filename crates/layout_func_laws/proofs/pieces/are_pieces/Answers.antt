use Rattle.std.proofs.Common.{refl}
use Rattle.std.proofs.lemmas.List.Elements.{at_read, AllWithin-more}
use Rattle.layout_set.specs.Law13.{IsPiece}
use Rattle.layout_func_laws.proofs.pieces.are_pieces.Goals as goal

-- the piece that was looked at is one
pub loop-piece-preserved : goal.loop-piece-preserved
loop-piece-preserved c =
    let pieces = c.args.pieces.now in
    let i = c.loop-piece.piece-index in
    AllWithin-more IsPiece pieces 0 i c.loop-piece.invariant (at_read pieces IsPiece i c.piece-item.result c.loop-piece-test.true c.piece-item.is (c.if-not-is_piece.ensures.0 refl))
