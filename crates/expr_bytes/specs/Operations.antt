-- Operations as contracts see them, and which operations of the stack machine each means.
use Rattle.std.specs.Prelude.{ℕ, ℤ, List, [], ◌∷◌, ◌++◌, Option, Some, None, option_and_then}
use Rattle.std.specs.Option.{option_map}
use Rattle.std.specs.Int.{w64, cast_unsigned}
use Rattle.snapshot_file.specs.declared.registers.Reg.{Reg}
use Rattle.snapshot_file.specs.declared.registers.Reg.TheVariants as regs
use Rattle.expr_eval.specs.declared.operation.Op.{Op}
use Rattle.expr_eval.specs.declared.operation.Op.TheVariants as op
use Rattle.expr_bytes.specs.declared.operation.Operation.{Operation}

-- an operation, with its bytes as a list
pub data Oper : Type 0 where
  Machine : Op → Oper
  Address : ℕ → Oper
  Register : Reg → Oper
  Based : Reg → ℤ → Oper
  CfaBased : ℤ → Oper
  Unframed : ℤ → Oper
  Value : List ℕ → Oper

-- the operation that an `Operation` is
abbrev pub oper_of : Operation → Oper
oper_of (Operation.Machine o) = Oper.Machine o
oper_of (Operation.Address a) = Oper.Address a
oper_of (Operation.Register reg) = Oper.Register reg
oper_of (Operation.Based reg z) = Oper.Based reg z
oper_of (Operation.CfaBased z) = Oper.CfaBased z
oper_of (Operation.Unframed z) = Oper.Unframed z
oper_of (Operation.Value b) = Oper.Value b.now

-- what an operation does on the stack; None where it is a place only by itself. One that counts from an unknown frame base
-- is taken as one that counts from rbp.
abbrev pub on_stack : Oper → Option (List Op)
on_stack (Oper.Machine o) = Some (o ∷ [])
on_stack (Oper.Address a) = Some (op.Const a ∷ [])
on_stack (Oper.Register reg) = None
on_stack (Oper.Based reg z) = Some (op.RegPlus reg z ∷ [])
on_stack (Oper.CfaBased z) = Some (op.Cfa ∷ op.Const (cast_unsigned w64 z) ∷ op.Plus ∷ [])
on_stack (Oper.Unframed z) = Some (op.RegPlus regs.Rbp z ∷ [])
on_stack (Oper.Value b) = None

-- what operations do on the stack, one after the other
abbrev pub all_on_stack : List Oper → Option (List Op)
all_on_stack [] = Some []
all_on_stack (o ∷ opers) = option_and_then (λ first. option_map (λ more. first ++ more) (all_on_stack opers)) (on_stack o)
