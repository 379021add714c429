-- What a location expression says: one place, or pieces; and the first operation that breaks a rule. DWARF 5, 2.6.1.
use Rattle.std.specs.Prelude.{◌≡◌, ◌≢◌, ℕ, List, [], filter, replicate, Option, Some, None, option_map, ◌⊎◌}
use Rattle.rv_bytes.specs.Forms.{Splits}
use Rattle.rv_bytes.specs.Places.{Place}
use Rattle.expr_bytes.specs.Operands.{operation}
use Rattle.expr_bytes.specs.Operations.{Oper}
use Rattle.expr_bytes.specs.Rules.{bad_order}
use Rattle.expr_bytes.specs.Runs.{IsFaultAt, StandAt, TakesPlace}
use Rattle.expr_bytes.specs.declared.place.Frame.{Frame}
use Rattle.expr_bytes.specs.declared.place.OpsErr.{OpsErr}
use Rattle.expr_bytes.specs.declared.place.Simple.{Simple}
use Rattle.expr_eval.specs.Addresses.{Addresses}
use Rattle.layout_set.specs.declared.func.Loc.{Loc}
use Rattle.layout_set.specs.declared.func.Loc.TheVariants as locs
use Rattle.layout_set.specs.declared.func.Piece.{Piece}
use Rattle.dwarf_locations.specs.Pieces.{TakePieces, has_bytes, piece_size}
use Rattle.dwarf_locations.specs.Places.{place_of}

abbrev pub start : List ℕ → Place
start bytes = record { at = 0; rest = bytes }

-- all bytes are the operations of one place; no operations say no location
pub record SayWhole (frame : Frame) (addrs : Addresses) (bytes : List ℕ) (loc : Option Loc) : Type 0 where
  pub end : Place
  pub said : Simple
  pub taken : TakesPlace frame addrs (start bytes) end said
  pub all : end.rest ≡ []
  pub is : loc ≡ option_map locs.Whole (place_of said)

-- the bytes are pieces, with no operation after the last; a piece of no bytes is left out
pub record SayPieces (frame : Frame) (addrs : Addresses) (bytes : List ℕ) (loc : Option Loc) : Type 0 where
  pub pieces : List Piece
  pub some : pieces ≢ []
  pub mid : Place
  pub taken : TakePieces frame addrs (start bytes) mid pieces
  pub end : Place
  pub nothing_after : TakesPlace frame addrs mid end Simple.Empty
  pub all : end.rest ≡ []
  pub is : loc ≡ Some (locs.Pieces (filter has_bytes pieces))

-- the expression says this location, if it says one
abbrev pub SayLocation : Frame → Addresses → List ℕ → Option Loc → Type 0
SayLocation frame addrs bytes loc = SayWhole frame addrs bytes loc ⊎ SayPieces frame addrs bytes loc

-- the bytes at this place begin with the operation
abbrev pub IsOperation : Frame → Addresses → Oper → ℕ → List ℕ → Type 0
IsOperation frame addrs o n rest = Splits ((operation frame addrs).spells n (Some o)) (λ _ _. Unit {0}) n rest

-- the operation at this place is the first from the other place on that does something
pub record StandsFirst (frame : Frame) (addrs : Addresses) (old : Place) (at : ℕ) : Type 0 where
  pub count : ℕ
  pub o : Oper
  pub stands : Splits (StandAt frame addrs old.at (replicate count None)) (λ n rest. (n ≡ at) × IsOperation frame addrs o n rest) old.at old.rest

-- the size of the piece whose operations begin at the old place is invalid
pub record IsBadSize (frame : Frame) (addrs : Addresses) (old : Place) (rule at : ℕ) : Type 0 where
  pub mid : Place
  pub said : Simple
  pub taken : TakesPlace frame addrs old mid said
  pub goes_on : mid.rest ≢ []
  pub invalid : piece_size.faults mid.at mid.rest rule at

-- after the last piece the operations are in order, and so only that they stand there breaks a rule
pub record IsLeftOver (frame : Frame) (addrs : Addresses) (old : Place) (rule at : ℕ) : Type 0 where
  pub end : Place
  pub said : Simple
  pub taken : TakesPlace frame addrs old end said
  pub all : end.rest ≡ []
  pub first : StandsFirst frame addrs old at
  pub rule_is : rule ≡ bad_order

-- the first operation of an expression that breaks a rule, in bytes from its start
pub record BreakAt (frame : Frame) (addrs : Addresses) (bytes : List ℕ) (rule at : ℕ) : Type 0 where
  pub pieces : List Piece
  pub mid : Place
  pub taken : TakePieces frame addrs (start bytes) mid pieces
  pub broken : IsFaultAt frame addrs mid rule at ⊎ (IsBadSize frame addrs mid rule at ⊎ ((pieces ≢ []) × IsLeftOver frame addrs mid rule at))

-- the refusal is right; memory may always run out
abbrev pub IsRefusedLocation : Frame → Addresses → List ℕ → OpsErr → Type 0
IsRefusedLocation frame addrs bytes (OpsErr.Refused offset rule) = BreakAt frame addrs bytes rule offset
IsRefusedLocation frame addrs bytes OpsErr.Memory = Unit {0}
