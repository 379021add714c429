-- The rules of attributes and of abbreviation tables, by their numbers.
use Rattle.std.specs.Prelude.{ℕ}

-- the table begins outside the section
abbrev pub table_outside : ℕ
table_outside = 24

-- the children byte is neither 0 nor 1: DWARF 5, 7.5.3
abbrev pub children_byte : ℕ
children_byte = 25

-- an earlier declaration has the code, or the tag is 0: DWARF 5, 7.5.3
abbrev pub code_or_tag : ℕ
code_or_tag = 26

-- the form is none of the table: DWARF 5, 7.5.6
abbrev pub unknown_form : ℕ
unknown_form = 28
