use Rattle.std.proofs.Common.{◌≡◌, ◌-◌, ◌^◌, min, take}
use Rattle.std.specs.List.{sum_by}
use Rattle.layout_set.specs.Counts.{piece_parts}
use Rattle.layout_func_laws.proofs.parts.count_pieces.Given as goal

abbrev pub invariant-loop-piece : goal.invariant-loop-piece
invariant-loop-piece l = l.count ≡ min (sum_by piece_parts (take l.piece-index l.pieces)) (2 ^ 64 - 1)
