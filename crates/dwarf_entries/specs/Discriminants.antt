-- The numbers that choose variants: DWARF 5, 5.7.10, DW_AT_discr_value.
use Rattle.std.specs.Prelude.{ℕ, ℤ, ◌+◌, ◌-◌, ◌*◌, ◌%◌, ◌^◌, ◌==◌, Bool, true, false, if◌then◌else◌, List, length, pos, unsigned_abs, min, unwrap_or, Option, Some, None}
use Rattle.std.specs.Int.{int_rem_euclid}
use Rattle.byteorder.specs.Endian.{little_number, twos_complement}
use Rattle.dwarf_abbrev.specs.FormCodes.{data1, data2, data4, data8}
use Rattle.dwarf_abbrev.specs.Values.{Val}
use Rattle.layout_set.specs.declared.primitive.Primitive.{Primitive}
use Rattle.layout_set.specs.Primitives.{prim_bytes}
use Rattle.dwarf_entries.specs.Lookups.{constant_in}
use Rattle.dwarf_entries.specs.Shapes.{Attribute}

-- whether a whole number of the type may be negative
abbrev pub is_signed : Primitive → Bool
is_signed Primitive.I8 = true
is_signed Primitive.I16 = true
is_signed Primitive.I32 = true
is_signed Primitive.I64 = true
is_signed Primitive.I128 = true
is_signed Primitive.Isize = true
is_signed _ = false

-- how many bytes a constant of the forms data1 to data8 has
abbrev pub data_width : ℕ → Option ℕ
data_width form = if form == data1 then Some 1 else if form == data2 then Some 2 else if form == data4 then Some 4 else if form == data8 then Some 8 else None

-- the number that a constant without a sign is for a tag with one: two's complement of its own form's width, where that has one
abbrev pub as_signed : Option ℕ → ℕ → ℤ
as_signed None n = pos n
as_signed (Some width) n = twos_complement width n

-- a number modulo 2^(8 * size)
abbrev pub modulo_bytes : ℕ → ℤ → ℕ
modulo_bytes size z = unsigned_abs (int_rem_euclid z (pos (2 ^ (8 * size))))

-- the number in a block of so many bytes; None for one of another size
abbrev pub block_number : ℕ → List ℕ → Option ℕ
block_number size block = if length block == size then Some (little_number size block) else None

-- the number that a value lists for a tag of so many bytes, signed or not; None for a block of another size
abbrev pub listed_number : ℕ → Bool → ℕ → Val → Option ℕ
listed_number size true form (Val.Unsigned n) = Some (modulo_bytes size (as_signed (data_width form) n))
listed_number size false form (Val.Unsigned n) = Some (modulo_bytes size (pos n))
listed_number size signed form (Val.Signed z) = Some (modulo_bytes size z)
listed_number size signed form (Val.Wide n) = Some (modulo_bytes size (pos n))
listed_number size signed form (Val.Block b) = block_number size b
listed_number size signed form _ = None

-- the number that a discr_value lists for a tag of this type, where a pointer has 8 bytes
abbrev pub discriminant : Primitive → Attribute → Option ℕ
discriminant prim a = listed_number (prim_bytes 8 prim) (is_signed prim) a.form a.value

-- the first and the last number of the default variant, for a tag of so many bytes: it begins after the last listed number and
-- ends before the first
abbrev pub default_first : ℕ → ℕ → ℕ
default_first size last = (last + 1) % 2 ^ (8 * size)

abbrev pub default_last : ℕ → ℕ → ℕ
default_last size first = (first + 2 ^ (8 * size) - 1) % 2 ^ (8 * size)

-- the listed numbers leave none for the default variant: from the first to the last they go all the way round
abbrev pub leaves_none : ℕ → ℕ → ℕ → Bool
leaves_none size first last = (last + 2 ^ (8 * size) - first) % 2 ^ (8 * size) == 2 ^ (8 * size) - 1

-- The number of a case: a constant modulo 2^(8 * size). Of a type of 16 bytes the low 8 are kept: no set with such an enumeration
-- is sound, whatever its numbers.
abbrev pub case_number : ℕ → Val → ℕ
case_number size v = modulo_bytes (min size 8) (unwrap_or (constant_in v) (pos 0))
