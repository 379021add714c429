-- What is written of operations, and how it is read: DWARF 5, 2.5 and 7.7.1.
use Rattle.std.specs.Prelude.{◌≡◌, ℕ, ℤ, ◌+◌, List, [], ◌∷◌, ◌++◌, length, map, Some, ◌⊎◌}
use Rattle.snapshot_file.specs.declared.registers.Reg.{Reg}
use Rattle.expr_eval.specs.Addresses.{Addresses}
use Rattle.expr_eval.specs.declared.operation.Op.{Op}
use Rattle.expr_eval.specs.declared.operation.Op.TheVariants as op
use Rattle.expr_bytes.specs.Registers.{number_of}
use Rattle.expr_bytes.specs.Operations.{Oper}
use Rattle.expr_bytes.specs.Places.{IsShort}
use Rattle.expr_bytes.specs.Runs.{Ends, StandAt, TakesPlace}
use Rattle.expr_bytes.specs.declared.layout.Layout.{Layout}
use Rattle.expr_bytes.specs.declared.place.Frame.{Frame}
use Rattle.expr_bytes.specs.declared.place.Simple.{Simple}

-- how the operands of an operation are written
abbrev pub layout_by : Op → Layout
layout_by (op.Const n) = Layout.ConstantLeb
layout_by (op.Deref width) = Layout.DerefSize
layout_by (op.Pick depth) = Layout.Pick
layout_by (op.PlusConst n) = Layout.PlusConst
layout_by (op.RegPlus reg n) = Layout.Based (number_of reg)
layout_by op.Entry = Layout.Entry
layout_by o = Layout.Plain o

-- the operation that is read
abbrev pub oper_by : Op → Oper
oper_by (op.RegPlus reg n) = Oper.Based reg n
oper_by o = Oper.Machine o

-- bytes were appended at which the operations stand, whatever the place, the frame base and the addresses
pub record ArePut (ops : List Op) (old new : List ℕ) : Type 0 where
  pub bytes : List ℕ
  pub appended : new ≡ old ++ bytes
  pub stand : (frame : Frame) (addrs : Addresses) (n : ℕ) → StandAt frame addrs n (map (λ o. Some (oper_by o)) ops) bytes

-- one sum of a register and a number that has at most 32 bits
pub record IsShortSum (ops : List Op) (reg : Reg) (z : ℤ) : Type 0 where
  pub one : ops ≡ op.RegPlus reg z ∷ []
  pub short : IsShort z

-- the place as which operations are read: one short sum is a place in memory, all else an expression
abbrev pub IsReadAs : List Op → Simple → Type 0
IsReadAs ops place =
    ((reg : Reg) × ((z : ℤ) × (IsShortSum ops reg z × (place ≡ Simple.Mem reg z))))
    ⊎ (((reg : Reg) (z : ℤ) → ¬ IsShortSum ops reg z) × (place ≡ Simple.Ops ops))

-- bytes were appended that say the place as which the operations are read, wherever they stand before an end
pub record AppendsPlace (ops : List Op) (old new : List ℕ) : Type 0 where
  pub bytes : List ℕ
  pub appended : new ≡ old ++ bytes
  pub says : (frame : Frame) (addrs : Addresses) (n : ℕ) (rest : List ℕ) (place : Simple) → Ends rest → IsReadAs ops place
      → TakesPlace frame addrs (record { at = n; rest = bytes ++ rest }) (record { at = n + length bytes; rest = rest }) place
