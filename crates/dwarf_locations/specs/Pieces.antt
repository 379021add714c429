-- Pieces of a value, each with its place: DWARF 5, 2.6.1.2.
use Rattle.std.specs.Prelude.{◌≡◌, ℕ, ◌^◌, ◌==◌, nat_lt, not, Bool, if◌then◌else◌, List, [], ◌∷◌, Option, Some, None}
use Rattle.rv_bytes.specs.Forms.{Form, choose, fails, follow, item}
use Rattle.rv_bytes.specs.Numbers.{number, uleb}
use Rattle.rv_bytes.specs.Places.{Place}
use Rattle.rv_bytes.specs.Reads.{Takes}
use Rattle.expr_bytes.specs.Codes as code
use Rattle.expr_bytes.specs.Rules.{bad_operation}
use Rattle.expr_bytes.specs.Runs.{TakesPlace}
use Rattle.expr_bytes.specs.declared.place.Frame.{Frame}
use Rattle.expr_bytes.specs.declared.place.Simple.{Simple}
use Rattle.expr_eval.specs.Addresses.{Addresses}
use Rattle.layout_set.specs.declared.func.Piece.{Piece}
use Rattle.dwarf_locations.specs.Places.{place_of}
use Rattle.dwarf_locations.specs.Rules.{no_fit}

-- a size has 32 bits at most
abbrev pub size_rule : ℕ → Option ℕ
size_rule n = if nat_lt n (2 ^ 32) then None else Some no_fit

-- the operation that ends a piece: its size in bytes. It is one item.
abbrev pub piece_size : Form ℕ ℕ
piece_size = item (follow (number 1) (λ op. choose (op == code.piece) uleb (fails bad_operation))) size_rule

-- the operations of the piece's place, and then its size; no operations say that it has no place
pub record TakesPiece (frame : Frame) (addrs : Addresses) (old new : Place) (piece : Piece) : Type 0 where
  pub mid : Place
  pub said : Simple
  pub taken : TakesPlace frame addrs old mid said
  pub size : Takes piece_size mid new piece.size
  pub place : piece.place ≡ place_of said

-- pieces, one after the other, from the old place up to the new one
abbrev pub TakePieces : Frame → Addresses → Place → Place → List Piece → Type 0
TakePieces frame addrs old new [] = new ≡ old
TakePieces frame addrs old new (piece ∷ pieces) = (mid : Place) × (TakesPiece frame addrs old mid piece × TakePieces frame addrs mid new pieces)

-- the piece is some bytes of the value
abbrev pub has_bytes : Piece → Bool
has_bytes piece = not (piece.size == 0)
