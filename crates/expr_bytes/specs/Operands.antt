-- The bytes of one operation: DWARF 5, 2.5 and 7.7.1.
use Rattle.std.specs.Prelude.{ℕ, ℤ, ◌+◌, ◌-◌, ◌*◌, ◌^◌, ◌==◌, ◌&&◌, nat_lt, nat_le, if◌then◌else◌, Option, Some, None}
use Rattle.std.specs.Int.{w64, cast_unsigned}
use Rattle.snapshot_file.specs.declared.registers.Reg.{Reg}
use Rattle.snapshot_file.specs.Registers.{width_of}
use Rattle.expr_eval.specs.Addresses.{address_at}
use Rattle.expr_eval.specs.Addresses.{Addresses}
use Rattle.expr_eval.specs.declared.operation.Op.TheVariants as op
use Rattle.rv_bytes.specs.Rules.{outside}
use Rattle.rv_bytes.specs.Forms.{Form, nothing, follow, made, item, choose, fails}
use Rattle.rv_bytes.specs.Numbers.{bytes, number, uleb, sleb}
use Rattle.expr_bytes.specs.Rules.{bad_operation}
use Rattle.expr_bytes.specs.Registers.{reg_at}
use Rattle.expr_bytes.specs.Layouts.{layout_of, bytes_in}
use Rattle.expr_bytes.specs.Operations.{Oper}
use Rattle.expr_bytes.specs.declared.layout.Layout.{Layout}
use Rattle.expr_bytes.specs.declared.place.Frame.{Frame}

-- a number of so many bytes in two's complement, in 64 bits
abbrev pub widened : ℕ → ℕ → ℕ
widened width n = if nat_lt n (2 ^ (8 * width - 1)) then n else n + (2 ^ 64 - 2 ^ (8 * width))

-- a constant
abbrev pub constant : ℕ → Option Oper
constant n = Some (Oper.Machine (op.Const n))

-- an address; an index that has none leads outside
abbrev pub address : Option ℕ → Form ℕ (Option Oper)
address None = fails outside
address (Some a) = nothing (Some (Oper.Address a))

-- a register; a number that has none is bad
abbrev pub register : Option Reg → Form ℕ (Option Oper)
register None = fails bad_operation
register (Some reg) = nothing (Some (Oper.Register reg))

-- what is added to a general register; every other is bad
abbrev pub based : Option Reg → ℤ → Form ℕ (Option Oper)
based None z = fails bad_operation
based (Some reg) z = choose (width_of reg == 8) (nothing (Some (Oper.Based reg z))) (fails bad_operation)

-- what is added to the frame base
abbrev pub frame_based : Frame → ℤ → Form ℕ (Option Oper)
frame_based Frame.Unknown z = nothing (Some (Oper.Unframed z))
frame_based (Frame.Reg reg) z = based (Some reg) z
frame_based Frame.Cfa z = nothing (Some (Oper.CfaBased z))

-- a read of 1 to 8 bytes; every other size is bad
abbrev pub sized : ℕ → Form ℕ (Option Oper)
sized n = choose (nat_lt 0 n && nat_le n 8) (nothing (Some (Oper.Machine (op.Deref n)))) (fails bad_operation)

-- what follows the code of an operation, which is None where nothing is done. A code without operands is bad.
abbrev pub operands : Frame → Addresses → Option Layout → Form ℕ (Option Oper)
operands frame addrs None = fails bad_operation
operands frame addrs (Some (Layout.Plain o)) = nothing (Some (Oper.Machine o))
operands frame addrs (Some Layout.Nop) = nothing None
operands frame addrs (Some Layout.Address) = made (λ a. Some (Oper.Address a)) (number 8)
operands frame addrs (Some Layout.AddressIndex) = follow uleb (λ i. address (address_at 8 addrs.section addrs.base i))
operands frame addrs (Some (Layout.Constant w)) = made constant (number (bytes_in w))
operands frame addrs (Some (Layout.SignedConstant w)) = made (λ n. constant (widened (bytes_in w) n)) (number (bytes_in w))
operands frame addrs (Some Layout.ConstantLeb) = made constant uleb
operands frame addrs (Some Layout.SignedConstantLeb) = made (λ z. constant (cast_unsigned w64 z)) sleb
operands frame addrs (Some Layout.DerefSize) = follow (number 1) sized
operands frame addrs (Some Layout.Pick) = made (λ n. Some (Oper.Machine (op.Pick n))) (number 1)
operands frame addrs (Some Layout.PlusConst) = made (λ n. Some (Oper.Machine (op.PlusConst n))) uleb
operands frame addrs (Some (Layout.Register n)) = register (reg_at n)
operands frame addrs (Some Layout.RegisterIndex) = follow uleb (λ n. register (reg_at n))
operands frame addrs (Some (Layout.Based n)) = follow sleb (based (reg_at n))
operands frame addrs (Some Layout.BasedIndex) = follow uleb (λ n. follow sleb (based (reg_at n)))
operands frame addrs (Some Layout.FrameBased) = follow sleb (frame_based frame)
operands frame addrs (Some Layout.Value) = made (λ b. Some (Oper.Value b)) (follow uleb bytes)
operands frame addrs (Some Layout.Entry) = made (λ _. Some (Oper.Machine op.Entry)) (follow uleb bytes)

-- no value breaks a rule by itself
abbrev pub any_value : {A : Type 0} → A → Option ℕ
any_value v = None

-- an operation, which is one item
abbrev pub operation : Frame → Addresses → Form ℕ (Option Oper)
operation frame addrs = item (follow (number 1) (λ code. operands frame addrs (layout_of code))) any_value
