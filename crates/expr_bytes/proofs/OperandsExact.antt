-- The reader of one operation is exact.
use Rattle.std.proofs.Common.{ℕ, ℤ, ◌==◌, ◌&&◌, nat_lt, nat_le, Option, Some, None}
use Rattle.std.specs.Int.{w64, cast_unsigned}
use Rattle.snapshot_file.specs.declared.registers.Reg.{Reg}
use Rattle.snapshot_file.specs.Registers.{width_of}
use Rattle.expr_eval.specs.Addresses.{address_at}
use Rattle.expr_eval.specs.Addresses.{Addresses}
use Rattle.expr_eval.specs.declared.operation.Op.TheVariants as op
use Rattle.rv_bytes.specs.Rules.{outside}
use Rattle.rv_bytes.specs.Forms.{follow}
use Rattle.rv_bytes.specs.Readers.{got, bad, and_then}
use Rattle.rv_bytes.specs.Numbers.{bytes, number, uleb, sleb}
use Rattle.rv_bytes.specs.NumberReaders.{read_bytes, read_number, read_uleb, read_sleb}
use Rattle.rv_bytes.proofs.Exact.{Exact, nothing_exact, follow_exact, made_exact, item_exact, choose_exact, fails_exact}
use Rattle.rv_bytes.proofs.ByteNumbers.{bytes_exact, number_exact}
use Rattle.rv_bytes.proofs.Lebs.{uleb_exact, sleb_exact}
use Rattle.expr_bytes.specs.Rules.{bad_operation}
use Rattle.expr_bytes.specs.Registers.{reg_at}
use Rattle.expr_bytes.specs.Layouts.{layout_of, bytes_in}
use Rattle.expr_bytes.specs.Operations.{Oper}
use Rattle.expr_bytes.specs.Operands.{widened, constant, address, register, based, frame_based, sized, operands, any_value, operation}
use Rattle.expr_bytes.specs.Readers.{read_address, read_register, read_based, read_frame_based, read_sized, read_operands, read_coded, read_operation}
use Rattle.expr_bytes.specs.declared.layout.Layout.{Layout}
use Rattle.expr_bytes.specs.declared.place.Frame.{Frame}

address_exact : (o : Option ℕ) → Exact (address o) (read_address o)
address_exact None = fails_exact outside
address_exact (Some a) = nothing_exact (Some (Oper.Address a))

register_exact : (o : Option Reg) → Exact (register o) (read_register o)
register_exact None = fails_exact bad_operation
register_exact (Some reg) = nothing_exact (Some (Oper.Register reg))

based_exact : (o : Option Reg) (z : ℤ) → Exact (based o z) (read_based o z)
based_exact None z = fails_exact bad_operation
based_exact (Some reg) z =
    choose_exact (width_of reg == 8) _ _ (λ n s. got (Some (Oper.Based reg z)) n s) (λ n s. bad bad_operation n) (nothing_exact (Some (Oper.Based reg z)))
    (fails_exact bad_operation)

frame_based_exact : (frame : Frame) (z : ℤ) → Exact (frame_based frame z) (read_frame_based frame z)
frame_based_exact Frame.Unknown z = nothing_exact (Some (Oper.Unframed z))
frame_based_exact (Frame.Reg reg) z = based_exact (Some reg) z
frame_based_exact Frame.Cfa z = nothing_exact (Some (Oper.CfaBased z))

sized_exact : (n : ℕ) → Exact (sized n) (read_sized n)
sized_exact n =
    choose_exact (nat_lt 0 n && nat_le n 8) _ _ (λ m s. got (Some (Oper.Machine (op.Deref n))) m s) (λ m s. bad bad_operation m)
    (nothing_exact (Some (Oper.Machine (op.Deref n)))) (fails_exact bad_operation)

-- of bytes after their length
counted_exact : Exact (follow uleb bytes) (λ n s. and_then (read_uleb n s) read_bytes)
counted_exact = follow_exact uleb bytes read_uleb read_bytes uleb_exact bytes_exact

-- of what follows a code
pub operands_exact : (frame : Frame) (addrs : Addresses) (o : Option Layout) → Exact (operands frame addrs o) (read_operands frame addrs o)
operands_exact frame addrs None = fails_exact bad_operation
operands_exact frame addrs (Some (Layout.Plain o)) = nothing_exact (Some (Oper.Machine o))
operands_exact frame addrs (Some Layout.Nop) = nothing_exact None
operands_exact frame addrs (Some Layout.Address) = made_exact (λ a. Some (Oper.Address a)) (number 8) (read_number 8) (number_exact 8)
operands_exact frame addrs (Some Layout.AddressIndex) =
    follow_exact uleb _ read_uleb (λ i. read_address (address_at 8 addrs.section addrs.base i)) uleb_exact
    (λ i. address_exact (address_at 8 addrs.section addrs.base i))
operands_exact frame addrs (Some (Layout.Constant w)) = made_exact constant (number (bytes_in w)) (read_number (bytes_in w)) (number_exact (bytes_in w))
operands_exact frame addrs (Some (Layout.SignedConstant w)) = made_exact (λ n. constant (widened (bytes_in w) n)) (number (bytes_in w)) (read_number (bytes_in w)) (number_exact (bytes_in w))
operands_exact frame addrs (Some Layout.ConstantLeb) = made_exact constant uleb read_uleb uleb_exact
operands_exact frame addrs (Some Layout.SignedConstantLeb) = made_exact (λ z. constant (cast_unsigned w64 z)) sleb read_sleb sleb_exact
operands_exact frame addrs (Some Layout.DerefSize) = follow_exact (number 1) sized (read_number 1) read_sized (number_exact 1) sized_exact
operands_exact frame addrs (Some Layout.Pick) = made_exact (λ n. Some (Oper.Machine (op.Pick n))) (number 1) (read_number 1) (number_exact 1)
operands_exact frame addrs (Some Layout.PlusConst) = made_exact (λ n. Some (Oper.Machine (op.PlusConst n))) uleb read_uleb uleb_exact
operands_exact frame addrs (Some (Layout.Register n)) = register_exact (reg_at n)
operands_exact frame addrs (Some Layout.RegisterIndex) =
    follow_exact uleb _ read_uleb (λ n. read_register (reg_at n)) uleb_exact (λ n. register_exact (reg_at n))
operands_exact frame addrs (Some (Layout.Based n)) =
    follow_exact sleb (based (reg_at n)) read_sleb (read_based (reg_at n)) sleb_exact (based_exact (reg_at n))
operands_exact frame addrs (Some Layout.BasedIndex) =
    follow_exact uleb _ read_uleb (λ n m k. and_then (read_sleb m k) (read_based (reg_at n))) uleb_exact
    (λ n. follow_exact sleb (based (reg_at n)) read_sleb (read_based (reg_at n)) sleb_exact (based_exact (reg_at n)))
operands_exact frame addrs (Some Layout.FrameBased) =
    follow_exact sleb (frame_based frame) read_sleb (read_frame_based frame) sleb_exact (frame_based_exact frame)
operands_exact frame addrs (Some Layout.Value) =
    made_exact (λ b. Some (Oper.Value b)) (follow uleb bytes) (λ n s. and_then (read_uleb n s) read_bytes) counted_exact
operands_exact frame addrs (Some Layout.Entry) =
    made_exact (λ _. Some (Oper.Machine op.Entry)) (follow uleb bytes) (λ n s. and_then (read_uleb n s) read_bytes) counted_exact

-- of an operation
pub operation_exact : (frame : Frame) (addrs : Addresses) → Exact (operation frame addrs) (read_operation frame addrs)
operation_exact frame addrs =
    item_exact _ (read_coded frame addrs) any_value
    (follow_exact (number 1) (λ code. operands frame addrs (layout_of code)) (read_number 1) (λ code. read_operands frame addrs (layout_of code)) (number_exact 1) (λ code. operands_exact frame addrs (layout_of code)))
