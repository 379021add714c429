-- What some tags stand for: DWARF 5, 7.5.3, table 7.3.
use Rattle.std.specs.Prelude.{Bool, true, false}
use Rattle.dwarf_entries.specs.declared.tag.Tag.{Tag}

abbrev pub is_variable_tag : Tag → Bool
is_variable_tag Tag.Variable = true
is_variable_tag _ = false

abbrev pub is_typedef : Tag → Bool
is_typedef Tag.Typedef = true
is_typedef _ = false

abbrev pub is_pointer : Tag → Bool
is_pointer Tag.PointerType = true
is_pointer _ = false

abbrev pub is_subroutine : Tag → Bool
is_subroutine Tag.SubroutineType = true
is_subroutine _ = false

abbrev pub is_base_type : Tag → Bool
is_base_type Tag.BaseType = true
is_base_type _ = false
