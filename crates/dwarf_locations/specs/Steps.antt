-- The steps by which expressions and lists are read, for proofs.
use Rattle.std.specs.Prelude.{◌≡◌, ℕ, ◌+◌, ◌^◌, ◌==◌, nat_lt, false, if◌then◌else◌, List, [], ◌∷◌, ◌++◌, filter, Option, Some, None, Result, Ok, Err, ◌⊎◌}
use Rattle.expr_bytes.specs.Codes as code
use Rattle.expr_bytes.specs.Rules.{bad_operation, bad_order}
use Rattle.expr_bytes.specs.Runs.{IsFaultAt, TakesPlace}
use Rattle.expr_bytes.specs.declared.place.Frame.{Frame}
use Rattle.expr_bytes.specs.declared.place.OpsErr.{OpsErr}
use Rattle.expr_bytes.specs.declared.place.Simple.{Simple}
use Rattle.expr_eval.specs.Addresses.{Addresses}
use Rattle.dwarf_list_entries.specs.Locations.{Bytes}
use Rattle.layout_set.specs.declared.func.Entry.{Entry}
use Rattle.layout_set.specs.declared.func.Piece.{Piece}
use Rattle.rv_bytes.specs.Forms.{row}
use Rattle.rv_bytes.specs.NumberReaders.{read_number, read_uleb}
use Rattle.rv_bytes.specs.Places.{Place}
use Rattle.rv_bytes.specs.Readers.{Reader, and_then, as_item, bad}
use Rattle.rv_bytes.specs.Reads.{Takes}
use Rattle.rv_bytes.specs.declared.err.DwErr.{DwErr}
use Rattle.dwarf_locations.specs.Expressions.{BreakAt, IsBadSize, IsLeftOver, StandsFirst}
use Rattle.dwarf_locations.specs.Lists.{Said, entries, location_list, said_entries}
use Rattle.dwarf_locations.specs.Pieces.{TakePieces, TakesPiece, has_bytes, piece_size, size_rule}
use Rattle.dwarf_locations.specs.Rules.{no_fit}
use Rattle.dwarf_locations.specs.declared.part.Part.{Part}
use Rattle.dwarf_locations.specs.declared.said.SaidEntry.{SaidEntry}

-- the reader of a code, which is that of a piece, and of a number
abbrev pub read_coded_size : Reader ℕ ℕ
read_coded_size n s = and_then (read_number 1 n s) (λ op m k. if op == code.piece then read_uleb m k else bad bad_operation m)

-- the reader of `piece_size`
abbrev pub read_piece_size : Reader ℕ ℕ
read_piece_size n s = as_item size_rule n (read_coded_size n s)

-- a size of at most 32 bits, of the piece whose operation begins here
abbrev pub fitting : ℕ → ℕ → Result ℕ DwErr
fitting at size = if nat_lt size (2 ^ 32) then Ok size else Err (DwErr.Refused at no_fit)

-- no piece ends at this place, by this rule
abbrev pub IsRefusedSize : Place → OpsErr → Type 0
IsRefusedSize old (OpsErr.Refused offset rule) = piece_size.faults old.at old.rest rule offset
IsRefusedSize old OpsErr.Memory = Unit {0}

-- the next part of an expression: a piece, or what the operations say up to the end
abbrev pub TakesPart : Frame → Addresses → Place → Place → Part → Type 0
TakesPart frame addrs old new (Part.Piece piece) = TakesPiece frame addrs old new piece
TakesPart frame addrs old new (Part.Last said) = TakesPlace frame addrs old new said × (new.rest ≡ [])

-- why there is none
abbrev pub IsRefusedPart : Frame → Addresses → Place → OpsErr → Type 0
IsRefusedPart frame addrs old (OpsErr.Refused offset rule) = IsFaultAt frame addrs old rule offset ⊎ IsBadSize frame addrs old rule offset
IsRefusedPart frame addrs old OpsErr.Memory = Unit {0}

-- no operation from the place on that does something comes after none but those that do nothing
abbrev pub StandsNone : Frame → Addresses → Place → Type 0
StandsNone frame addrs old = (at : ℕ) → ¬ StandsFirst frame addrs old at

-- where the first operation stands that does something, if there is one
abbrev pub AnswersFirst : Frame → Addresses → Place → Option ℕ → Type 0
AnswersFirst frame addrs old None = StandsNone frame addrs old
AnswersFirst frame addrs old (Some at) = StandsFirst frame addrs old at

-- the first operation that does something stands there, and is out of order
abbrev pub IsRefusedFirst : Frame → Addresses → Place → OpsErr → Type 0
IsRefusedFirst frame addrs old (OpsErr.Refused offset rule) = StandsFirst frame addrs old offset × (rule ≡ bad_order)
IsRefusedFirst frame addrs old OpsErr.Memory = Unit {0}

-- pieces from the old place on, after which nothing stands; with the first they are these, but for those of no bytes
pub record SayRest (frame : Frame) (addrs : Addresses) (old : Place) (first : Piece) (kept : List Piece) : Type 0 where
  pub more : List Piece
  pub mid : Place
  pub taken : TakePieces frame addrs old mid more
  pub end : Place
  pub nothing_after : TakesPlace frame addrs mid end Simple.Empty
  pub all : end.rest ≡ []
  pub is : kept ≡ filter has_bytes (first ∷ more)

-- the first operation after pieces from the old place on that breaks a rule
pub record BreakRest (frame : Frame) (addrs : Addresses) (old : Place) (rule at : ℕ) : Type 0 where
  pub more : List Piece
  pub mid : Place
  pub taken : TakePieces frame addrs old mid more
  pub broken : IsFaultAt frame addrs mid rule at ⊎ (IsBadSize frame addrs mid rule at ⊎ IsLeftOver frame addrs mid rule at)

abbrev pub IsRefusedRest : Frame → Addresses → Place → OpsErr → Type 0
IsRefusedRest frame addrs old (OpsErr.Refused offset rule) = BreakRest frame addrs old rule offset
IsRefusedRest frame addrs old OpsErr.Memory = Unit {0}

-- the refusal of an expression that stands in a section
abbrev pub IsRefusedIn : Frame → Addresses → Bytes → DwErr → Type 0
IsRefusedIn frame addrs b (DwErr.Refused offset rule) = (k : ℕ) × (BreakAt frame addrs b.bytes rule k × (offset ≡ b.offset + k))
IsRefusedIn frame addrs b DwErr.Memory = Unit {0}

-- the entry that a `SaidEntry` is
abbrev pub said_seen : SaidEntry → Said
said_seen e = record { entry = e.entry; loc = e.loc }

-- Entries up to this place say these, and leave this base. With what the entries from here on say they are the list at the old place,
-- and what breaks a rule here does so there.
pub record LeadsTo (frame : Frame) (addrs : Addresses) (first : ℕ) (old : Place) (said : List Entry) (base : ℕ) (here : Place) : Type 0 where
  pub taken : (new : Place) (more : List Said) → Takes (row (said_entries frame addrs) false) here new more
      → Takes (location_list frame addrs first) old new (said ++ entries base more)
  pub refused : (rule at : ℕ) → (row (said_entries frame addrs) false).faults here.at here.rest rule at
      → (location_list frame addrs first).faults old.at old.rest rule at
