use Rattle.std.proofs.Common.{◌≡◌, ◌-◌, ◌^◌, min, take}
use Rattle.std.specs.List.{sum_by}
use Rattle.layout_func_laws.proofs.pieces.bytes_of_pieces.Given as goal

abbrev pub invariant-loop-piece : goal.invariant-loop-piece
invariant-loop-piece l = l.bytes ≡ min (sum_by (λ p. p.size) (take l.piece-index l.pieces)) (2 ^ 64 - 1)
