-- Where a variable is at a program counter, on a machine whose pointers have `ptr` bytes.
use Rattle.std.specs.Prelude.{ℕ, ℤ, ◌+◌, ◌*◌, ◌^◌, ◌%◌, nat_le, nat_lt, ◌&&◌, Bool, List, [], ◌∷◌, ◌++◌, map, take, replicate, Option, Some, None, slice_get}
use Rattle.std.specs.Int.{cast_unsigned, to_le_bytes, w64}
use Rattle.std.specs.List.{range_with_len, find, flat_map}
use Rattle.std.specs.Option.{option_map}
use Rattle.snapshot_file.specs.Memory.{items_at}
use Rattle.snapshot_file.specs.Registers.{register}
use Rattle.snapshot_file.specs.declared.registers.Reg.{Reg as Register}
use Rattle.snapshot_file.specs.declared.snapshot.Snapshot.{Snapshot}
use Rattle.expr_eval.specs.declared.operation.Spot.{Spot}
use Rattle.expr_eval.specs.declared.operation.Spot.TheVariants.{Address, Number}
use Rattle.expr_eval.specs.Results.{register_number, result_of}
use Rattle.layout_set.specs.declared.func.Entry.{Entry}
use Rattle.layout_set.specs.declared.func.Loc.{Loc}
use Rattle.layout_set.specs.declared.func.Loc.TheVariants.{Whole, Pieces}
use Rattle.layout_set.specs.declared.func.Piece.{Piece}
use Rattle.layout_set.specs.declared.func.Place.{Place}
use Rattle.layout_set.specs.declared.func.Place.TheVariants.{Reg, Mem, Fixed, Value, Expr}
use Rattle.layout_values.specs.Contexts.{Items}
use Rattle.layout_values.specs.Scalars.{pointer_width}

-- so many items, all missing
abbrev pub missing : ℕ → Items
missing len = replicate len None

-- so many items that these bytes give, low byte first; what they don't reach is missing
abbrev pub given : List ℕ → ℕ → Items
given bytes len = map (slice_get bytes) (range_with_len 0 len)

abbrev pub given_if : Option (List ℕ) → ℕ → Items
given_if None len = missing len
given_if (Some bytes) len = given bytes len

-- memory at an address, if there is one
abbrev pub memory_if : Snapshot → Option ℕ → ℕ → Items
memory_if snap None len = missing len
memory_if snap (Some at) len = items_at snap.mem at len

-- so many bytes past the number in a register, modulo 2^(8 ptr)
abbrev pub address_by : ℕ → Snapshot → Register → ℤ → Option ℕ
address_by ptr snap reg n = option_map (λ a. (a + cast_unsigned w64 n) % 2 ^ (8 * ptr)) (register_number snap.regs reg)

-- memory at an address, or the low bytes of a number, as many as a pointer has
abbrev pub spot_items : ℕ → Snapshot → Option Spot → ℕ → Items
spot_items ptr snap None len = missing len
spot_items ptr snap (Some (Address at)) len = items_at snap.mem at len
spot_items ptr snap (Some (Number n)) len = given (to_le_bytes (pointer_width ptr) n) len

-- so many items at a place
abbrev pub place_items : ℕ → Snapshot → Place → ℕ → Items
place_items ptr snap (Reg reg) len = given_if (register snap.regs reg) len
place_items ptr snap (Mem reg n) len = memory_if snap (address_by ptr snap reg n) len
place_items ptr snap (Fixed at) len = items_at snap.mem at len
place_items ptr snap (Value text) len = given text len
place_items ptr snap (Expr ops) len = spot_items ptr snap (result_of ptr ops snap) len

abbrev pub place_items_if : ℕ → Snapshot → Option Place → ℕ → Items
place_items_if ptr snap None len = missing len
place_items_if ptr snap (Some place) len = place_items ptr snap place len

abbrev pub piece_items : ℕ → Snapshot → Piece → Items
piece_items ptr snap p = place_items_if ptr snap p.place p.size

-- so many items of a location; pieces follow one another, and what they don't reach is missing
abbrev pub loc_items : ℕ → Snapshot → Loc → ℕ → Items
loc_items ptr snap (Whole place) len = place_items ptr snap place len
loc_items ptr snap (Pieces pieces) len = take len (flat_map (piece_items ptr snap) pieces ++ missing len)

-- the entry tells of this program counter
abbrev pub covers : ℕ → Entry → Bool
covers pc e = nat_le e.lo pc && nat_lt pc e.hi

-- the first entry that tells of this program counter
abbrev pub entry_at : ℕ → List Entry → Option Entry
entry_at pc entries = find (covers pc) entries

-- the part that a variable of so many bytes has, if an entry tells of the program counter
abbrev pub place_of : ℕ → Snapshot → List Entry → ℕ → Option Items
place_of ptr snap entries len = option_map (λ e. loc_items ptr snap e.loc len) (entry_at snap.pc entries)
