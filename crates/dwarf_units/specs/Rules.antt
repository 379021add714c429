-- The rules that units and entries may break, by their numbers, beside those of rv_bytes and dwarf_abbrev.
use Rattle.std.specs.Prelude.{ℕ}

-- the unit_length is 0xfffffff0 or more, which 32-bit DWARF reserves: DWARF 5, 7.4
abbrev pub reserved_length : ℕ
reserved_length = 20

-- the version isn't 5: DWARF 5, 7.5.1
abbrev pub version : ℕ
version = 21

-- the unit type isn't DW_UT_compile, or the tag of a unit's first entry isn't DW_TAG_compile_unit: DWARF 5, 7.5.1
abbrev pub not_compile : ℕ
not_compile = 22

-- the address size isn't 8: DWARF 5, 7.5.1.1
abbrev pub address_size : ℕ
address_size = 23

-- no declaration of the unit's table has the code: DWARF 5, 7.5.2
abbrev pub unknown_code : ℕ
unknown_code = 27

-- the entry would be nested 257 deep, where a unit's first entry is 1 deep
abbrev pub too_deep : ℕ
too_deep = 29

-- 8,000,000 entries of the section come before it
abbrev pub too_many : ℕ
too_many = 30
