use Rattle.std.proofs.Common.{◌≡◌, ◌≤◌, ◌++◌, length, take, drop}
use Rattle.std.specs.List.{flat_map}
use Rattle.layout_values.specs.Places.{piece_items}
use Rattle.value_reader.proofs.Joined.{Adjoin, joined}
use Rattle.value_reader.proofs.locating.piece_chunks.Given as goal

-- the chunks so far follow one another, and give, with the other pieces, what all pieces give
abbrev pub invariant-loop-piece : goal.invariant-loop-piece
invariant-loop-piece l = record {
  within : l.off ≤ l.size;
  adjoin : Adjoin 0 l.off l.chunks;
  long : length (joined l.snap.mem l.chunks) ≡ l.off;
  items : take l.size (flat_map (piece_items 8 l.snap) l.pieces) ≡ take l.size
      (joined l.snap.mem l.chunks ++ flat_map (piece_items 8 l.snap) (drop l.piece-index l.pieces));
}
