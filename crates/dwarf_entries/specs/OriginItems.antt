-- The items of the entries from which a variable takes a name or a type, each right after the attribute that leads there.
use Rattle.std.specs.Prelude.{ℕ, zero, suc, ◌==◌, ◌&&◌, ◌||◌, not, Bool, true, false, if◌then◌else◌, List, [], ◌∷◌, ◌++◌, flat_map, Option, Some, None}
use Rattle.dwarf_entries.specs.AttributeItems.{own_item, name_items, around_items, firsts}
use Rattle.dwarf_entries.specs.Codes.{at_abstract_origin, at_name, at_type}
use Rattle.dwarf_entries.specs.Dies.{Die, Info}
use Rattle.dwarf_entries.specs.Items.{Item}
use Rattle.dwarf_entries.specs.Lookups.{has}
use Rattle.dwarf_entries.specs.NameRoles.{Role}
use Rattle.dwarf_entries.specs.Origins.{origin_of}
use Rattle.dwarf_entries.specs.Shapes.{Attribute}
use Rattle.dwarf_entries.specs.declared.class.Class.{Class}

-- what an entry still lacks
pub record Wants : Type 0 where
  pub wants_name : Bool
  pub wants_type : Bool

-- what it lacks that this entry hasn't either
abbrev pub still : Die → Wants → Wants
still d w = record { wants_name = w.wants_name && not (has at_name d.entry); wants_type = w.wants_type && not (has at_type d.entry) }

abbrev pub any : Wants → Bool
any w = w.wants_name || w.wants_type

-- all is lacking
abbrev pub both : Wants
both = record { wants_name = true; wants_type = true }

-- the items of one attribute of an origin, where `further` are those to which its abstract_origin leads
abbrev pub origin_attribute : Info → Role → Wants → Bool → List Item → Die → Attribute → List Item
origin_attribute info role w steps further o a =
    if a.code == at_name && w.wants_name then name_items info o a role
    else if a.code == at_type && w.wants_type then own_item info o a Class.Link ∷ []
    else if a.code == at_abstract_origin && (steps && any (still o w)) then own_item info o a Class.Link ∷ further
    else []

-- whether a step more may be taken
abbrev pub may_step : ℕ → Bool
may_step zero = false
may_step (suc n) = true

-- the items of an origin in so many steps and those after it: its attributes that give something, in order, then the names around
abbrev pub origin_items : ℕ → Info → Role → Wants → Option Die → List Item
origin_items steps info role w None = []
origin_items zero info role w (Some o) = flat_map (origin_attribute info role w false [] o) (firsts o.entry) ++ around_items info o
origin_items (suc steps) info role w (Some o) =
    flat_map (origin_attribute info role w true (origin_items steps info role (still o w) (origin_of info o)) o) (firsts o.entry)
    ++ around_items info o

-- the items of the origins of a variable, where it lacks a name or a type; the first step is to the first origin, and 7 may follow
abbrev pub origins_items : Info → Role → Die → List Item
origins_items info role d = if any (still d both) then origin_items 7 info role (still d both) (origin_of info d) else []
