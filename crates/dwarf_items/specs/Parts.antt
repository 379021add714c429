-- Which entries have a variant part: DWARF 5, 5.7.10.
use Rattle.std.specs.Prelude.{Bool, List, map}
use Rattle.dwarf_entries.specs.Dies.{Info}
use Rattle.dwarf_entries.specs.Structures.{has_part}

-- of each entry, in order, whether a variant part is below it
abbrev pub are_with_parts : Info → List Bool
are_with_parts info = map (has_part info) info.dies
