-- The texts of the names that are part of those below them.
use Rattle.std.specs.Prelude.{if◌then◌else◌, List, [], Option, Some, None}
use Rattle.dwarf_entries.specs.AttributeItems.{text_items}
use Rattle.dwarf_entries.specs.Codes.{at_name}
use Rattle.dwarf_entries.specs.Dies.{Die, Info, what}
use Rattle.dwarf_entries.specs.Items.{Item}
use Rattle.dwarf_entries.specs.Lookups.{attribute_of}
use Rattle.dwarf_entries.specs.Shapes.{Attribute}
use Rattle.dwarf_entries.specs.Tags.{passes, is_named_scope}

abbrev pub text_items_if : Info → Die → Option Attribute → List Item
text_items_if info d None = []
text_items_if info d (Some a) = text_items info d a

-- the text of the first name of an entry whose name is part of those below it
abbrev pub scope_items : Info → Die → List Item
scope_items info d = if passes is_named_scope (what d) then text_items_if info d (attribute_of at_name d.entry) else []
