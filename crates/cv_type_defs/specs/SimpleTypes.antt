-- Simple types: indices below 1000 that are primitives, or 64-bit pointers to one.
use Rattle.std.specs.Prelude.{ℕ, ◌-◌, ◌+◌, ◌==◌, nat_lt, if◌then◌else◌, List, [], ◌∷◌, Option, Some, None}
use Rattle.layout_set.specs.declared.primitive.Primitive.{Primitive}

-- the index of the first record; those below it are simple types
abbrev pub first_index : ℕ
first_index = 0x1000

-- the primitive that a simple type is; void is the unit
unfoldable pub primitive_at : ℕ → Option Primitive
primitive_at index =
    if index == 0x03 then Some Primitive.«Unit»
    else if index == 0x10 then Some Primitive.I8
    else if index == 0x11 then Some Primitive.I16
    else if index == 0x13 then Some Primitive.I64
    else if index == 0x14 then Some Primitive.I128
    else if index == 0x20 then Some Primitive.U8
    else if index == 0x21 then Some Primitive.U16
    else if index == 0x23 then Some Primitive.U64
    else if index == 0x24 then Some Primitive.U128
    else if index == 0x30 then Some Primitive.Bool
    else if index == 0x40 then Some Primitive.F32
    else if index == 0x41 then Some Primitive.F64
    else if index == 0x74 then Some Primitive.I32
    else if index == 0x75 then Some Primitive.U32
    else if index == 0x7b then Some Primitive.Char
    else None

-- all simple types that are primitives, rising
abbrev pub primitives : List ℕ
primitives =
    0x03 ∷ 0x10 ∷ 0x11 ∷ 0x13 ∷ 0x14 ∷ 0x20 ∷ 0x21 ∷ 0x23 ∷ 0x24 ∷ 0x30 ∷ 0x40 ∷ 0x41 ∷ 0x74 ∷ 0x75 ∷ 0x7b ∷ []

-- the index of the 64-bit pointer to a simple type
abbrev pub simple_pointer : ℕ → ℕ
simple_pointer t = 0x600 + t

-- what the 64-bit pointer leads to that a simple type is
abbrev pub pointed_at : ℕ → Option Primitive
pointed_at index = if nat_lt index 0x600 then None else primitive_at (index - 0x600)
