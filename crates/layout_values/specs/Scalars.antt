-- The values of numbers, by their primitive types.
use Rattle.std.specs.Prelude.{ℕ, ◌==◌, nat_lt, if◌then◌else◌, Option, Some, None}
use Rattle.std.specs.Int.{Width, cast_signed, w8, w16, w32, w64, w128}
use lib.Utf8.{scalar}
use Rattle.layout_set.specs.declared.primitive.Primitive.{Primitive}
use Rattle.layout_set.specs.declared.primitive.Primitive.TheVariants as prim
use Rattle.rust_value.specs.declared.value.Val.{Val}
use Rattle.rust_value.specs.declared.value.Val.TheVariants.{«Unit» as UnitVal, Bool, Char, Unsigned, Signed, Float32, Float64}

-- the width of a pointer's number: pointers have 4 or 8 bytes
abbrev pub pointer_width : ℕ → Width
pointer_width ptr = if ptr == 4 then w32 else w64

-- the value of a number that stands there: a truth value is 0 or 1, a character is a Unicode scalar value, and the
-- numbers of signed types are in two's complement
abbrev pub prim_value : ℕ → Primitive → ℕ → Option Val
prim_value ptr prim.Unit n = Some UnitVal
prim_value ptr prim.Bool n = if nat_lt n 2 then Some (Bool (n == 1)) else None
prim_value ptr prim.Char n = if scalar n then Some (Char n) else None
prim_value ptr prim.I8 n = Some (Signed (cast_signed w8 n))
prim_value ptr prim.I16 n = Some (Signed (cast_signed w16 n))
prim_value ptr prim.I32 n = Some (Signed (cast_signed w32 n))
prim_value ptr prim.I64 n = Some (Signed (cast_signed w64 n))
prim_value ptr prim.I128 n = Some (Signed (cast_signed w128 n))
prim_value ptr prim.Isize n = Some (Signed (cast_signed (pointer_width ptr) n))
prim_value ptr prim.U8 n = Some (Unsigned n)
prim_value ptr prim.U16 n = Some (Unsigned n)
prim_value ptr prim.U32 n = Some (Unsigned n)
prim_value ptr prim.U64 n = Some (Unsigned n)
prim_value ptr prim.U128 n = Some (Unsigned n)
prim_value ptr prim.Usize n = Some (Unsigned n)
prim_value ptr prim.F32 n = Some (Float32 n)
prim_value ptr prim.F64 n = Some (Float64 n)
