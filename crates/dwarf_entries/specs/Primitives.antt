-- The primitives that base types are, by their encoding, size and name: DWARF 5, 5.1.1 and 7.8.
use Rattle.std.specs.Prelude.{ℕ, ◌==◌, ◌&&◌, if◌then◌else◌, List, Option, Some, None, codes, bytes_eq, ok_or, Result, Ok, Err}
use Rattle.dwarf_abbrev.specs.Values.{Val}
use Rattle.dwarf_entries.specs.Codes.{at_byte_size, at_encoding}
use Rattle.dwarf_entries.specs.Dies.{Die, Info}
use Rattle.dwarf_entries.specs.Lookups.{natural_in, value_of}
use Rattle.dwarf_entries.specs.Names.{joined_text}
use Rattle.dwarf_entries.specs.Rules.{missing, no_primitive}
use Rattle.layout_set.specs.declared.primitive.Primitive.{Primitive}

abbrev pub ate_boolean : ℕ
ate_boolean = 0x02

abbrev pub ate_float : ℕ
ate_float = 0x04

abbrev pub ate_signed : ℕ
ate_signed = 0x05

abbrev pub ate_signed_char : ℕ
ate_signed_char = 0x06

abbrev pub ate_unsigned : ℕ
ate_unsigned = 0x07

abbrev pub ate_unsigned_char : ℕ
ate_unsigned_char = 0x08

abbrev pub ate_utf : ℕ
ate_utf = 0x10

-- an integer of 8 bytes with this name, or else the one that its encoding says
abbrev pub long_integer : List ℕ → Primitive → Primitive
long_integer name other =
    if bytes_eq name (codes "isize") then Primitive.Isize else if bytes_eq name (codes "usize") then Primitive.Usize else other

-- an integer with a sign, of so many bytes
abbrev pub signed_integer : ℕ → List ℕ → Option Primitive
signed_integer size name =
    if size == 1 then Some Primitive.I8 else if size == 2 then Some Primitive.I16 else if size == 4 then Some Primitive.I32
    else if size == 8 then Some (long_integer name Primitive.I64) else if size == 16 then Some Primitive.I128 else None

-- an integer without a sign, of so many bytes; of none it is the unit, by its name
abbrev pub unsigned_integer : ℕ → List ℕ → Option Primitive
unsigned_integer size name =
    if size == 1 then Some Primitive.U8 else if size == 2 then Some Primitive.U16 else if size == 4 then Some Primitive.U32
    else if size == 8 then Some (long_integer name Primitive.U64) else if size == 16 then Some Primitive.U128
    else if size == 0 && bytes_eq name (codes "()") then Some Primitive.«Unit» else None

abbrev pub float : ℕ → Option Primitive
float size = if size == 4 then Some Primitive.F32 else if size == 8 then Some Primitive.F64 else None

-- a character, by its size and name
abbrev pub character : ℕ → List ℕ → Option Primitive
character size name = if size == 4 && bytes_eq name (codes "char") then Some Primitive.Char else None

-- a primitive that has one byte
abbrev pub of_one_byte : ℕ → Primitive → Option Primitive
of_one_byte size prim = if size == 1 then Some prim else None

-- the primitive of this encoding, size and name, if there is one
unfoldable pub primitive : ℕ → ℕ → List ℕ → Option Primitive
primitive encoding size name =
    if encoding == ate_boolean then of_one_byte size Primitive.Bool
    else if encoding == ate_float then float size
    else if encoding == ate_signed then signed_integer size name
    else if encoding == ate_signed_char then of_one_byte size Primitive.I8
    else if encoding == ate_unsigned then unsigned_integer size name
    else if encoding == ate_unsigned_char then (if size == 1 then Some Primitive.U8 else character size name)
    else if encoding == ate_utf then character size name
    else None

abbrev pub by_numbers : Option ℕ → Option ℕ → List ℕ → Option Primitive
by_numbers (Some encoding) (Some size) name = primitive encoding size name
by_numbers _ _ name = None

-- the primitive of these attributes and this name, or the rule that they break: both are needed, and are those of a primitive
abbrev pub base_type : Option Val → Option Val → List ℕ → Result Primitive ℕ
base_type (Some encoding) (Some size) name = ok_or (by_numbers (natural_in encoding) (natural_in size) name) no_primitive
base_type _ _ name = Err missing

-- the same of an entry
abbrev pub base_type_of : Info → Die → Result Primitive ℕ
base_type_of info d = base_type (value_of at_encoding d.entry) (value_of at_byte_size d.entry) (joined_text info d)

abbrev pub ok_of : Result Primitive ℕ → Option Primitive
ok_of (Ok prim) = Some prim
ok_of (Err rule) = None

abbrev pub err_of : Result Primitive ℕ → Option ℕ
err_of (Ok prim) = None
err_of (Err rule) = Some rule

-- the primitive that a base type is
abbrev pub primitive_of : Info → Die → Option Primitive
primitive_of info d = ok_of (base_type_of info d)

-- the rule that a base type breaks
abbrev pub base_rule : Info → Die → Option ℕ
base_rule info d = err_of (base_type_of info d)
