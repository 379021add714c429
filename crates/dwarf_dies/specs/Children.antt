-- The entries whose parent one is, by their numbers.
use Rattle.std.specs.Prelude.{ℕ, List, [], map, Option, Some, None}
use Rattle.dwarf_entries.specs.Dies.{Die, Info, children_of}
use Rattle.dwarf_dies.specs.Views.{number_of_die}

abbrev pub numbers_of_children : Info → Option Die → List ℕ
numbers_of_children info None = []
numbers_of_children info (Some d) = map number_of_die (children_of info d)
