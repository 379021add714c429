use Rattle.std.proofs.Common.{◌≡◌, ◌∷◌, filter, length, List}
use Rattle.layout_set.specs.declared.func.Piece.{Piece}
use Rattle.dwarf_locations.specs.Pieces.{TakePieces, has_bytes}
use Rattle.dwarf_locations.proofs.pieces.read_rest.Given as goal

-- pieces up to here were read, and those that have bytes were kept
abbrev pub invariant-loop-pieces : goal.invariant-loop-pieces
invariant-loop-pieces l = (more : List Piece) × (TakePieces l.fn.frame l.fn.addrs l.fn.cut l.cut more × (l.pieces ≡ filter has_bytes (l.fn.first ∷ more)))

abbrev pub decreases-loop-pieces : goal.decreases-loop-pieces
decreases-loop-pieces l = length l.cut.rest
