-- The items of the attributes that are looked at, entry by entry.
use Rattle.std.specs.Prelude.{ℕ, ◌==◌, ◌&&◌, ◌||◌, not, if◌then◌else◌, List, [], ◌∷◌, flat_map, Option, Some, None}
use Rattle.dwarf_entries.specs.AttributeItems.{own_item, name_items, location_items, firsts}
use Rattle.dwarf_entries.specs.Codes.{at_abstract_origin, at_location, at_name}
use Rattle.dwarf_entries.specs.Dies.{Die, Info, what}
use Rattle.dwarf_entries.specs.Items.{Item, in_info, item_at}
use Rattle.dwarf_entries.specs.NameRoles.{is_beside_part, role_of}
use Rattle.dwarf_entries.specs.OriginItems.{origins_items}
use Rattle.dwarf_entries.specs.PassedOver.{is_function, is_in_function, is_read, is_variable}
use Rattle.dwarf_entries.specs.Rows.{class_in, row_of}
use Rattle.dwarf_entries.specs.Rules.{not_yet}
use Rattle.dwarf_entries.specs.Shapes.{Attribute}
use Rattle.dwarf_entries.specs.Structures.{is_member}
use Rattle.dwarf_entries.specs.Tags.{passes}
use Rattle.dwarf_entries.specs.declared.class.Class.{Class}
use Rattle.dwarf_entries.specs.declared.tag.Tag.{Tag}

-- what a static's location or origin leads to
abbrev pub further_items : Info → Die → Attribute → List Item
further_items info d a =
    if not (passes is_variable (what d)) then []
    else if a.code == at_location && not (is_in_function d) then location_items info d a
    else if a.code == at_abstract_origin then origins_items info (role_of info d) d
    else []

-- an attribute that is looked at, with what it leads to
abbrev pub class_items : Info → Die → Attribute → Option Class → List Item
class_items info d a None = []
class_items info d a (Some class) =
    if a.code == at_name then name_items info d a (role_of info d) else own_item info d a class ∷ further_items info d a

abbrev pub row_class : ℕ → Option Tag → Option Class
row_class code None = None
row_class code (Some t) = class_in code (row_of t)

abbrev pub attribute_items : Info → Die → Attribute → List Item
attribute_items info d a = class_items info d a (row_class a.code (what d))

-- the items of an entry: of a function that it isn't read yet, and of others their attributes that are looked at, in order
abbrev pub entry_items : Info → Die → List Item
entry_items info d =
    if not (is_read info d) || (passes is_member (what d) && is_beside_part info d) then []
    else if passes is_function (what d) then item_at (in_info d.entry.offset) (Some not_yet) ∷ []
    else flat_map (attribute_items info d) (firsts d.entry)

-- the items of all entries
abbrev pub pass_b : Info → List Item
pass_b info = flat_map (entry_items info) info.dies
