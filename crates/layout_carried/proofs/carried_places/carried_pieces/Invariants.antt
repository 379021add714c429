use Rattle.std.proofs.Common.{◌≡◌, take, drop}
use Rattle.layout_carried.specs.Carried.{pieces_carry}
use Rattle.layout_carried.proofs.carried_places.carried_pieces.Given as goal

-- the pieces so far are found, and all are carried where the rest are, from this offset on
abbrev pub invariant-loop-piece : goal.invariant-loop-piece
invariant-loop-piece l = (l.found ≡ take l.piece-index l.pieces) × (pieces_carry 0 l.pieces ≡ pieces_carry l.off (drop l.piece-index l.pieces))
