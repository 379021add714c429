-- What operations on a stack of numbers give in a snapshot: DWARF 5, 2.5. The stack's numbers are as wide as an address,
-- which has `ptr` bytes.
use Rattle.std.specs.Prelude.{◌≡◌, ℕ, ℤ, ◌+◌, ◌-◌, ◌*◌, ◌/◌, ◌%◌, ◌^◌, Bool, true, false, nat_lt, if◌then◌else◌, List, [], ◌∷◌, ◌++◌, slice_get, Option, Some, None, option_and_then}
use Rattle.std.specs.Option.{option_map}
use Rattle.std.specs.Int.{w64, cast_unsigned}
use Rattle.std.specs.Int.Bits.{bit_and, bit_or, bit_xor}
use Rattle.snapshot_file.specs.declared.registers.Reg.{Reg}
use Rattle.snapshot_file.specs.declared.snapshot.Snapshot.{Snapshot}
use Rattle.snapshot_file.specs.Memory.{items_at, number}
use Rattle.snapshot_file.specs.Registers.{register}
use Rattle.expr_eval.specs.declared.operation.Op.{Op}
use Rattle.expr_eval.specs.declared.operation.Op.TheVariants as op
use Rattle.expr_eval.specs.declared.operation.Spot.{Spot}
use Rattle.expr_eval.specs.declared.operation.Spot.TheVariants as spots

-- the bits of a number on the stack
abbrev pub bits_of : ℕ → ℕ
bits_of ptr = 8 * ptr

-- the first number that is too large for the stack
abbrev pub limit_of : ℕ → ℕ
limit_of ptr = 2 ^ bits_of ptr

-- the number modulo that
abbrev pub wrapped : ℕ → ℕ → ℕ
wrapped ptr n = n % limit_of ptr

-- n with all bits turned
abbrev pub turned : ℕ → ℕ → ℕ
turned ptr n = limit_of ptr - 1 - n

-- n shifted to the left by so many bits
abbrev pub shl : ℕ → ℕ → ℕ → ℕ
shl ptr n by = if nat_lt by (bits_of ptr) then wrapped ptr (n * 2 ^ by) else 0

-- n shifted to the right by so many bits
abbrev pub shr : ℕ → ℕ → ℕ → ℕ
shr ptr n by = if nat_lt by (bits_of ptr) then n / 2 ^ by else 0

-- n shifted to the right by so many bits, with copies of its sign bit coming in: where it is set, of the number with all
-- bits turned, and turned back
abbrev pub shra : ℕ → ℕ → ℕ → ℕ
shra ptr n by = if nat_lt n (2 ^ (bits_of ptr - 1)) then shr ptr n by else turned ptr (shr ptr (turned ptr n) by)

-- the number of bytes, low byte first
abbrev pub little_endian : List ℕ → ℕ
little_endian [] = 0
little_endian (b ∷ bytes) = b + 256 * little_endian bytes

-- the number in a register, low byte first
abbrev pub register_number : List (Option (List ℕ)) → Reg → Option ℕ
register_number regs reg = option_map little_endian (register regs reg)

-- a number on top of the stack, if there is one
abbrev pub onto : List ℕ → Option ℕ → Option (List ℕ)
onto stack found = option_map (λ n. n ∷ stack) found

-- the stack where a call succeeds
abbrev pub outcome : Bool → List ℕ → Option (List ℕ)
outcome result stack = if result then Some stack else None

-- the number in a register and n, which is in two's complement
abbrev pub register_plus : ℕ → List (Option (List ℕ)) → Reg → ℤ → Option ℕ
register_plus ptr regs reg n = option_map (λ r. wrapped ptr (r + cast_unsigned w64 n)) (register_number regs reg)

-- One operation, from a list of numbers to another, the top first; nothing where it lacks an operand, or names a register,
-- a byte or a `cfa` that is missing. All numbers that are taken, and all sums, are modulo 2^(8 ptr).
abbrev pub step : ℕ → Snapshot → Op → List ℕ → Option (List ℕ)
step ptr snap (op.Const n) s = Some (wrapped ptr n ∷ s)
step ptr snap (op.Deref width) (top ∷ s) = onto s (option_map (wrapped ptr) (number (items_at snap.mem top width)))
step ptr snap op.Dup (top ∷ s) = Some (top ∷ top ∷ s)
step ptr snap op.Drop (top ∷ s) = Some s
step ptr snap op.Over (top ∷ second ∷ s) = Some (second ∷ top ∷ second ∷ s)
step ptr snap (op.Pick depth) s = onto s (slice_get s depth)
step ptr snap op.Swap (top ∷ second ∷ s) = Some (second ∷ top ∷ s)
step ptr snap op.Rot (top ∷ second ∷ third ∷ s) = Some (second ∷ third ∷ top ∷ s)
step ptr snap op.And (top ∷ second ∷ s) = Some (bit_and second top ∷ s)
step ptr snap op.Minus (top ∷ second ∷ s) = Some (wrapped ptr (second + (limit_of ptr - top)) ∷ s)
step ptr snap op.Mul (top ∷ second ∷ s) = Some (wrapped ptr (second * top) ∷ s)
step ptr snap op.Neg (top ∷ s) = Some (wrapped ptr (limit_of ptr - top) ∷ s)
step ptr snap op.Not (top ∷ s) = Some (turned ptr top ∷ s)
step ptr snap op.Or (top ∷ second ∷ s) = Some (bit_or second top ∷ s)
step ptr snap op.Plus (top ∷ second ∷ s) = Some (wrapped ptr (second + top) ∷ s)
step ptr snap (op.PlusConst n) (top ∷ s) = Some (wrapped ptr (top + n) ∷ s)
step ptr snap op.Shl (top ∷ second ∷ s) = Some (shl ptr second top ∷ s)
step ptr snap op.Shr (top ∷ second ∷ s) = Some (shr ptr second top ∷ s)
step ptr snap op.Shra (top ∷ second ∷ s) = Some (shra ptr second top ∷ s)
step ptr snap op.Xor (top ∷ second ∷ s) = Some (bit_xor second top ∷ s)
step ptr snap (op.RegPlus reg n) s = onto s (register_plus ptr snap.regs reg n)
step ptr snap op.Cfa s = onto s (option_map (wrapped ptr) snap.cfa)
step ptr snap op.Entry s = None
step ptr snap op.StackValue s = Some s
step ptr snap _ _ = None

-- operations one by one, from a stack on
abbrev pub run : ℕ → Snapshot → List Op → List ℕ → Option (List ℕ)
run ptr snap [] stack = Some stack
run ptr snap (o ∷ ops) stack = option_and_then (run ptr snap ops) (step ptr snap o stack)

-- the stack after the operations
abbrev pub meaning : ℕ → Snapshot → List Op → Option (List ℕ)
meaning ptr snap ops = run ptr snap ops []

-- the operation says that the top is the value
abbrev pub is_stack_value : Op → Bool
is_stack_value op.StackValue = true
is_stack_value _ = false

-- the last operation says that the top is the value
abbrev pub ends_in_value : List Op → Bool
ends_in_value [] = false
ends_in_value (o ∷ []) = is_stack_value o
ends_in_value (o ∷ next ∷ ops) = ends_in_value (next ∷ ops)

-- what the top of the stack is
abbrev pub spot : Bool → List ℕ → Option Spot
spot is_value [] = None
spot true (top ∷ stack) = Some (spots.Number top)
spot false (top ∷ stack) = Some (spots.Address top)

-- what the operations give in a snapshot, where addresses have `ptr` bytes
abbrev pub result_of : ℕ → List Op → Snapshot → Option Spot
result_of ptr ops snap = option_and_then (spot (ends_in_value ops)) (meaning ptr snap ops)

-- the meaning of all but the last operation, then of the last
pub record IsByLast (ptr : ℕ) (m : Snapshot → List Op → Option (List ℕ)) : Type 0 where
  pub none : (snap : Snapshot) → m snap [] ≡ Some []
  pub last : (snap : Snapshot) (ops : List Op) (o : Op) → m snap (ops ++ o ∷ []) ≡ option_and_then (step ptr snap o) (m snap ops)

-- `meaning` is what is so by the last operation, and nothing else is
pub record LastDetermines (ptr : ℕ) : Type 0 where
  pub meets : IsByLast ptr (meaning ptr)
  pub only : (m : Snapshot → List Op → Option (List ℕ)) → IsByLast ptr m → (snap : Snapshot) (ops : List Op) → m snap ops ≡ meaning ptr snap ops
