-- The attributes of LF_POINTER: its kind in bits 0 to 4, its mode in bits 5 to 7, whether it is const in bit 10, and its size in
-- bytes from bit 13 on.
use Rattle.std.specs.Prelude.{ℕ, ◌/◌, ◌^◌, ◌==◌, ◌&&◌, not, Bool, if◌then◌else◌, bit_and, Option, Some, None}
use Rattle.names.specs.declared.name.PtrKind.{PtrKind}

-- the kind of 64-bit pointers
abbrev pub near_64 : ℕ
near_64 = 0x0c

abbrev pub kind_bits : ℕ → ℕ
kind_bits attributes = bit_and attributes 0x1f

abbrev pub mode_bits : ℕ → ℕ
mode_bits attributes = bit_and attributes 0xe0

abbrev pub is_const : ℕ → Bool
is_const attributes = not (bit_and attributes 0x400 == 0)

-- all bits from 13 on
abbrev pub size_bits : ℕ → ℕ
size_bits attributes = attributes / 2 ^ 13

-- the kind of a pointer of this mode: 0 is a raw pointer, 1 a reference, 4 a box; None for every other mode
unfoldable pub kind_of_mode : ℕ → Bool → Option PtrKind
kind_of_mode mode const =
    if mode == 0x00 then Some (if const then PtrKind.Const else PtrKind.Mut)
    else if mode == 0x20 then Some (if const then PtrKind.Ref else PtrKind.RefMut)
    else if mode == 0x80 then Some PtrKind.Boxed
    else None

-- the kind of a pointer; None where it is no 64-bit pointer of 8 bytes, or its mode is another
abbrev pub pointer_kind : ℕ → Option PtrKind
pointer_kind attributes =
    if kind_bits attributes == near_64 && size_bits attributes == 8
    then kind_of_mode (mode_bits attributes) (is_const attributes) else None
