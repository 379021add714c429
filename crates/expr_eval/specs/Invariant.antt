-- Which lists of operations are an expression: those that fit a stack of 64 numbers.
use Rattle.std.specs.Prelude.{◌≡◌, ℕ, ◌+◌, ◌-◌, ◌≤◌, ◌<◌, Bool, true, not, ◌&&◌, ◌==◌, nat_le, nat_lt, List, [], ◌∷◌, length}
use Rattle.snapshot_file.specs.Registers.{width_of}
use Rattle.expr_eval.specs.declared.operation.Op.{Op}
use Rattle.expr_eval.specs.declared.operation.Op.TheVariants as op
use Rattle.expr_eval.specs.Results.{is_stack_value}

-- how many numbers an operation needs on the stack
abbrev pub needs : Op → ℕ
needs (op.Const n) = 0
needs (op.Deref width) = 1
needs op.Dup = 1
needs op.Drop = 1
needs op.Over = 2
needs (op.Pick depth) = depth + 1
needs op.Swap = 2
needs op.Rot = 3
needs op.And = 2
needs op.Minus = 2
needs op.Mul = 2
needs op.Neg = 1
needs op.Not = 1
needs op.Or = 2
needs op.Plus = 2
needs (op.PlusConst n) = 1
needs op.Shl = 2
needs op.Shr = 2
needs op.Shra = 2
needs op.Xor = 2
needs (op.RegPlus reg n) = 0
needs op.Cfa = 0
needs op.Entry = 0
needs op.StackValue = 0

-- how many numbers stand in their place afterwards
abbrev pub gives : Op → ℕ
gives (op.Const n) = 1
gives (op.Deref width) = 1
gives op.Dup = 2
gives op.Drop = 0
gives op.Over = 3
gives (op.Pick depth) = depth + 2
gives op.Swap = 2
gives op.Rot = 3
gives op.And = 1
gives op.Minus = 1
gives op.Mul = 1
gives op.Neg = 1
gives op.Not = 1
gives op.Or = 1
gives op.Plus = 1
gives (op.PlusConst n) = 1
gives op.Shl = 1
gives op.Shr = 1
gives op.Shra = 1
gives op.Xor = 1
gives (op.RegPlus reg n) = 1
gives op.Cfa = 1
gives op.Entry = 1
gives op.StackValue = 0

-- a number is read from 1 to 8 bytes, and from a general register alone
abbrev pub is_sound : Op → Bool
is_sound (op.Deref width) = nat_lt 0 width && nat_le width 8
is_sound (op.RegPlus reg n) = width_of reg == 8
is_sound _ = true

-- each operation is sound
abbrev pub each_sound : List Op → Bool
each_sound [] = true
each_sound (o ∷ ops) = is_sound o && each_sound ops

-- an operation that says that the top is the value stands only last
abbrev pub value_is_last : List Op → Bool
value_is_last [] = true
value_is_last (o ∷ []) = true
value_is_last (o ∷ next ∷ ops) = not (is_stack_value o) && value_is_last (next ∷ ops)

-- the height of the stack after one operation
abbrev pub height_by : ℕ → Op → ℕ
height_by height o = height - needs o + gives o

-- From this height on no operation lacks an operand or passes 64 numbers. It holds of each beginning of such a list.
abbrev pub fits : ℕ → List Op → Bool
fits height [] = true
fits height (o ∷ ops) = nat_le (needs o) height && (nat_le (height_by height o) 64 && fits (height_by height o) ops)

-- the height after the operations
abbrev pub height_after : ℕ → List Op → ℕ
height_after height [] = height
height_after height (o ∷ ops) = height_after (height_by height o) ops

-- 1 to 64 operations, each sound, that fit an empty stack and leave a number
pub record AreOps (ops : List Op) : Type 0 where
  pub some : 0 < length ops
  pub few : length ops ≤ 64
  pub sound : each_sound ops ≡ true
  pub last : value_is_last ops ≡ true
  pub fit : fits 0 ops ≡ true
  pub value : 0 < height_after 0 ops
