-- The first attributes of each kind that a check may look at.
use Rattle.std.specs.Prelude.{ℕ, ◌==◌, ◌&&◌, nat_lt, not, Bool, List, filter}
use Rattle.std.specs.List.{list_any}
use Rattle.dwarf_units.specs.declared.attributes.EntryAttribute.{EntryAttribute}
use Rattle.dwarf_entries.specs.AttributeItems.{firsts}
use Rattle.dwarf_entries.specs.Shapes.{Attribute, Entry}

abbrev pub code_of : EntryAttribute → ℕ
code_of a = a.attr

-- all codes of attributes that are looked at are below this: DWARF 5, 7.5.4, table 7.5
abbrev pub code_limit : ℕ
code_limit = 0x90

abbrev pub is_low : Attribute → Bool
is_low a = nat_lt a.code code_limit

-- the first attributes of each kind, of the codes below the limit
abbrev pub low_firsts : Entry → List Attribute
low_firsts e = filter is_low (firsts e)

-- an attribute with this code is the first one after these, and may be looked at
abbrev pub is_new : List EntryAttribute → ℕ → Bool
is_new got code = nat_lt code code_limit && not (list_any (λ a. code == a.attr) got)
