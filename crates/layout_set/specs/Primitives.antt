-- The primitive types.
use Rattle.std.specs.Prelude.{ℕ, ◌*◌, Bool, true, false}
use Rattle.layout_set.specs.declared.primitive.Primitive.{Primitive}
use Rattle.layout_set.specs.declared.primitive.Primitive.TheVariants.{«Unit» as UnitPrim, Bool as BoolPrim, Char, I8, I16, I32, I64, I128, Isize, U8, U16, U32, U64, U128, Usize, F32, F64}

-- the size in bytes, where a pointer has `ptr`
abbrev pub prim_bytes : ℕ → Primitive → ℕ
prim_bytes ptr UnitPrim = 0
prim_bytes ptr BoolPrim = 1
prim_bytes ptr Char = 4
prim_bytes ptr I8 = 1
prim_bytes ptr I16 = 2
prim_bytes ptr I32 = 4
prim_bytes ptr I64 = 8
prim_bytes ptr I128 = 16
prim_bytes ptr Isize = ptr
prim_bytes ptr U8 = 1
prim_bytes ptr U16 = 2
prim_bytes ptr U32 = 4
prim_bytes ptr U64 = 8
prim_bytes ptr U128 = 16
prim_bytes ptr Usize = ptr
prim_bytes ptr F32 = 4
prim_bytes ptr F64 = 8

-- the width in bits
abbrev pub prim_width : ℕ → Primitive → ℕ
prim_width ptr prim = 8 * prim_bytes ptr prim

-- whether it is a whole number
abbrev pub is_whole : Primitive → Bool
is_whole UnitPrim = false
is_whole BoolPrim = false
is_whole Char = false
is_whole F32 = false
is_whole F64 = false
is_whole _ = true
