-- The types of the set, by the numbers of their entries.
use Rattle.std.specs.Prelude.{ℕ, List, map}
use Rattle.dwarf_entries.specs.Dies.{Info}
use Rattle.dwarf_entries.specs.Said.{type_dies}
use Rattle.dwarf_dies.specs.Views.{number_of_die}

-- these numbers, which rise
abbrev pub numbers_of_types : Info → List ℕ
numbers_of_types info = map number_of_die (type_dies info)
