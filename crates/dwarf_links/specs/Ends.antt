-- Where links lead, as calls say it.
use Rattle.dwarf_entries.specs.Dies.{Info}
use Rattle.dwarf_entries.specs.TypeLinks.{End as LinkEnd}
use Rattle.dwarf_dies.specs.Handles.{among}
use Rattle.dwarf_links.specs.declared.ends.End.{End}

-- an end among these entries
abbrev pub end_in : Info → LinkEnd → End
end_in info (LinkEnd.reached d) = End.Reached (among info d)
end_in info LinkEnd.nowhere = End.Nowhere
end_in info LinkEnd.endless = End.Endless
