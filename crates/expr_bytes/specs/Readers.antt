-- The readers of operations, for proofs.
use Rattle.std.specs.Prelude.{ℕ, ℤ, ◌==◌, ◌&&◌, nat_lt, nat_le, if◌then◌else◌, Option, Some, None}
use Rattle.std.specs.Int.{w64, cast_unsigned}
use Rattle.snapshot_file.specs.declared.registers.Reg.{Reg}
use Rattle.snapshot_file.specs.Registers.{width_of}
use Rattle.expr_eval.specs.Addresses.{address_at}
use Rattle.expr_eval.specs.Addresses.{Addresses}
use Rattle.expr_eval.specs.declared.operation.Op.TheVariants as op
use Rattle.rv_bytes.specs.Rules.{outside}
use Rattle.rv_bytes.specs.Readers.{got, bad, Reader, and_then, with_value, as_item}
use Rattle.rv_bytes.specs.NumberReaders.{read_bytes, read_number, read_uleb, read_sleb}
use Rattle.rv_bytes.specs.declared.err.DwErr.{DwErr}
use Rattle.expr_bytes.specs.Rules.{bad_operation}
use Rattle.expr_bytes.specs.Registers.{reg_at}
use Rattle.expr_bytes.specs.Layouts.{layout_of, bytes_in}
use Rattle.expr_bytes.specs.Operations.{Oper}
use Rattle.expr_bytes.specs.Operands.{widened, constant, any_value}
use Rattle.expr_bytes.specs.declared.layout.Layout.{Layout}
use Rattle.expr_bytes.specs.declared.place.Frame.{Frame}
use Rattle.expr_bytes.specs.declared.place.OpsErr.{OpsErr}

-- the same refusal, of the item that begins at this place
abbrev pub moved : ℕ → DwErr → DwErr
moved at (DwErr.Refused offset rule) = DwErr.Refused at rule
moved at DwErr.Memory = DwErr.Memory

-- the refusal as one of operations
abbrev pub in_cut : DwErr → OpsErr
in_cut (DwErr.Refused offset rule) = OpsErr.Refused offset rule
in_cut DwErr.Memory = OpsErr.Memory

-- the reader of `address`
abbrev pub read_address : Option ℕ → Reader ℕ (Option Oper)
read_address None n s = bad outside n
read_address (Some a) n s = got (Some (Oper.Address a)) n s

-- the reader of `register`
abbrev pub read_register : Option Reg → Reader ℕ (Option Oper)
read_register None n s = bad bad_operation n
read_register (Some reg) n s = got (Some (Oper.Register reg)) n s

-- the reader of `based`
abbrev pub read_based : Option Reg → ℤ → Reader ℕ (Option Oper)
read_based None z n s = bad bad_operation n
read_based (Some reg) z n s = if width_of reg == 8 then got (Some (Oper.Based reg z)) n s else bad bad_operation n

-- the reader of `frame_based`
abbrev pub read_frame_based : Frame → ℤ → Reader ℕ (Option Oper)
read_frame_based Frame.Unknown z n s = got (Some (Oper.Unframed z)) n s
read_frame_based (Frame.Reg reg) z n s = read_based (Some reg) z n s
read_frame_based Frame.Cfa z n s = got (Some (Oper.CfaBased z)) n s

-- the reader of `sized`
abbrev pub read_sized : ℕ → Reader ℕ (Option Oper)
read_sized size n s = if nat_lt 0 size && nat_le size 8 then got (Some (Oper.Machine (op.Deref size))) n s else bad bad_operation n

-- the reader of `operands`
abbrev pub read_operands : Frame → Addresses → Option Layout → Reader ℕ (Option Oper)
read_operands frame addrs None n s = bad bad_operation n
read_operands frame addrs (Some (Layout.Plain o)) n s = got (Some (Oper.Machine o)) n s
read_operands frame addrs (Some Layout.Nop) n s = got None n s
read_operands frame addrs (Some Layout.Address) n s = with_value (λ a. Some (Oper.Address a)) (read_number 8 n s)
read_operands frame addrs (Some Layout.AddressIndex) n s = and_then (read_uleb n s) (λ i. read_address (address_at 8 addrs.section addrs.base i))
read_operands frame addrs (Some (Layout.Constant w)) n s = with_value constant (read_number (bytes_in w) n s)
read_operands frame addrs (Some (Layout.SignedConstant w)) n s = with_value (λ v. constant (widened (bytes_in w) v)) (read_number (bytes_in w) n s)
read_operands frame addrs (Some Layout.ConstantLeb) n s = with_value constant (read_uleb n s)
read_operands frame addrs (Some Layout.SignedConstantLeb) n s = with_value (λ z. constant (cast_unsigned w64 z)) (read_sleb n s)
read_operands frame addrs (Some Layout.DerefSize) n s = and_then (read_number 1 n s) read_sized
read_operands frame addrs (Some Layout.Pick) n s = with_value (λ v. Some (Oper.Machine (op.Pick v))) (read_number 1 n s)
read_operands frame addrs (Some Layout.PlusConst) n s = with_value (λ v. Some (Oper.Machine (op.PlusConst v))) (read_uleb n s)
read_operands frame addrs (Some (Layout.Register number)) n s = read_register (reg_at number) n s
read_operands frame addrs (Some Layout.RegisterIndex) n s = and_then (read_uleb n s) (λ number. read_register (reg_at number))
read_operands frame addrs (Some (Layout.Based number)) n s = and_then (read_sleb n s) (read_based (reg_at number))
read_operands frame addrs (Some Layout.BasedIndex) n s = and_then (read_uleb n s) (λ number m k. and_then (read_sleb m k) (read_based (reg_at number)))
read_operands frame addrs (Some Layout.FrameBased) n s = and_then (read_sleb n s) (read_frame_based frame)
read_operands frame addrs (Some Layout.Value) n s = with_value (λ b. Some (Oper.Value b)) (and_then (read_uleb n s) read_bytes)
read_operands frame addrs (Some Layout.Entry) n s = with_value (λ _. Some (Oper.Machine op.Entry)) (and_then (read_uleb n s) read_bytes)

-- the reader of a code, and of what follows it
abbrev pub read_coded : Frame → Addresses → Reader ℕ (Option Oper)
read_coded frame addrs n s = and_then (read_number 1 n s) (λ code. read_operands frame addrs (layout_of code))

-- the reader of `operation`
abbrev pub read_operation : Frame → Addresses → Reader ℕ (Option Oper)
read_operation frame addrs n s = as_item any_value n (read_coded frame addrs n s)
