-- What tells two operations apart: their kinds and what they carry. Private.
use Rattle.std.specs.Prelude.{ℕ, ℤ, Option, Some, None}
use Rattle.snapshot_file.specs.declared.registers.Reg.{Reg}
use Rattle.expr_eval.specs.declared.operation.Op.{Op}
use Rattle.expr_eval.specs.declared.operation.Op.TheVariants as ops

-- a number for each kind of operation
abbrev pub kind_of : Op → ℕ
kind_of (ops.Const n) = 0
kind_of (ops.Deref n) = 1
kind_of ops.Dup = 2
kind_of ops.Drop = 3
kind_of ops.Over = 4
kind_of (ops.Pick n) = 5
kind_of ops.Swap = 6
kind_of ops.Rot = 7
kind_of ops.And = 8
kind_of ops.Minus = 9
kind_of ops.Mul = 10
kind_of ops.Neg = 11
kind_of ops.Not = 12
kind_of ops.Or = 13
kind_of ops.Plus = 14
kind_of (ops.PlusConst n) = 15
kind_of ops.Shl = 16
kind_of ops.Shr = 17
kind_of ops.Shra = 18
kind_of ops.Xor = 19
kind_of (ops.RegPlus reg n) = 20
kind_of ops.Cfa = 21
kind_of ops.Entry = 22
kind_of ops.StackValue = 23

-- the number that an operation carries alone, or 0
abbrev pub number_in : Op → ℕ
number_in (ops.Const n) = n
number_in (ops.Deref n) = n
number_in (ops.Pick n) = n
number_in (ops.PlusConst n) = n
number_in _ = 0

-- the register that an operation adds to, and what it adds
abbrev pub sum_in : Op → Option (Reg × ℤ)
sum_in (ops.RegPlus reg n) = Some (reg, n)
sum_in _ = None
