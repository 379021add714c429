-- How the operands of each operation lie: DWARF 5, 2.5 and 7.7.1, with addresses of 8 bytes.
use Rattle.std.specs.Prelude.{ℕ, ◌-◌, ◌==◌, ◌&&◌, nat_le, if◌then◌else◌, Option, Some, None}
use Rattle.expr_eval.specs.declared.operation.Op.TheVariants as op
use Rattle.expr_bytes.specs.Codes as code
use Rattle.expr_bytes.specs.declared.layout.Layout.{Layout}
use Rattle.expr_bytes.specs.declared.width.Width.{Width}

-- how many bytes a number has
abbrev pub bytes_in : Width → ℕ
bytes_in Width.One = 1
bytes_in Width.Two = 2
bytes_in Width.Four = 4
bytes_in Width.Eight = 8

-- the table of operations: None for a code that is none of those that are read in a place
unfoldable pub layout_of : ℕ → Option Layout
layout_of n =
    if n == code.addr then Some Layout.Address
    else if n == code.deref then Some (Layout.Plain (op.Deref 8))
    -- constants
    else if n == code.const1u then Some (Layout.Constant Width.One)
    else if n == code.const1s then Some (Layout.SignedConstant Width.One)
    else if n == code.const2u then Some (Layout.Constant Width.Two)
    else if n == code.const2s then Some (Layout.SignedConstant Width.Two)
    else if n == code.const4u then Some (Layout.Constant Width.Four)
    else if n == code.const4s then Some (Layout.SignedConstant Width.Four)
    else if n == code.const8u then Some (Layout.Constant Width.Eight)
    else if n == code.const8s then Some (Layout.SignedConstant Width.Eight)
    else if n == code.constu then Some Layout.ConstantLeb
    else if n == code.consts then Some Layout.SignedConstantLeb
    -- moves on the stack
    else if n == code.dup then Some (Layout.Plain op.Dup)
    else if n == code.drop then Some (Layout.Plain op.Drop)
    else if n == code.over then Some (Layout.Plain op.Over)
    else if n == code.pick then Some Layout.Pick
    else if n == code.swap then Some (Layout.Plain op.Swap)
    else if n == code.rot then Some (Layout.Plain op.Rot)
    -- arithmetic
    else if n == code.and then Some (Layout.Plain op.And)
    else if n == code.minus then Some (Layout.Plain op.Minus)
    else if n == code.mul then Some (Layout.Plain op.Mul)
    else if n == code.neg then Some (Layout.Plain op.Neg)
    else if n == code.not then Some (Layout.Plain op.Not)
    else if n == code.or then Some (Layout.Plain op.Or)
    else if n == code.plus then Some (Layout.Plain op.Plus)
    else if n == code.plus_uconst then Some Layout.PlusConst
    else if n == code.shl then Some (Layout.Plain op.Shl)
    else if n == code.shr then Some (Layout.Plain op.Shr)
    else if n == code.shra then Some (Layout.Plain op.Shra)
    else if n == code.xor then Some (Layout.Plain op.Xor)
    -- the numbers 0 to 31, the registers 0 to 31, and each of these with a number added
    else if nat_le code.lit0 n && nat_le n code.lit31 then Some (Layout.Plain (op.Const (n - code.lit0)))
    else if nat_le code.reg0 n && nat_le n code.reg31 then Some (Layout.Register (n - code.reg0))
    else if nat_le code.breg0 n && nat_le n code.breg31 then Some (Layout.Based (n - code.breg0))
    -- registers by their numbers, and the frame
    else if n == code.regx then Some Layout.RegisterIndex
    else if n == code.fbreg then Some Layout.FrameBased
    else if n == code.bregx then Some Layout.BasedIndex
    else if n == code.deref_size then Some Layout.DerefSize
    else if n == code.nop then Some Layout.Nop
    else if n == code.call_frame_cfa then Some (Layout.Plain op.Cfa)
    -- values
    else if n == code.implicit_value then Some Layout.Value
    else if n == code.stack_value then Some (Layout.Plain op.StackValue)
    else if n == code.addrx then Some Layout.AddressIndex
    else if n == code.entry_value then Some Layout.Entry
    else None
