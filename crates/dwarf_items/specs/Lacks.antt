-- What an entry still lacks.
use Rattle.dwarf_entries.specs.OriginItems.{Wants}
use Rattle.dwarf_items.specs.declared.origins.Lacks.{Lacks}

abbrev pub wants_of : Lacks → Wants
wants_of l = record { wants_name = l.name; wants_type = l.type_link }
