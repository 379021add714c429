use Rattle.std.proofs.Common.{◌≡◌, ℕ, ◌<◌, get_or}
use Rattle.layout_set.specs.declared.func.Piece.{Piece}
use Rattle.layout_func_laws.proofs.same_location.same_pieces.Given as goal

abbrev pub invariant-loop-i : goal.invariant-loop-i
invariant-loop-i l = (j : ℕ) (d : Piece) → j < l.i → get_or l.a j d ≡ get_or l.b j d
