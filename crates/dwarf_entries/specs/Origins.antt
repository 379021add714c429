-- The entries from which a variable takes a name or a type that it lacks: DWARF 5, 3.3.8.2, DW_AT_abstract_origin.
use Rattle.std.specs.Prelude.{ℕ, zero, suc, ◌&&◌, not, Bool, false, List, [], ◌∷◌, find, slice_get, Option, Some, None, is_none}
use Rattle.dwarf_entries.specs.Codes.{at_name, at_abstract_origin}
use Rattle.dwarf_entries.specs.Dies.{Die, Info, linked}
use Rattle.dwarf_entries.specs.Lookups.{has}

-- the entry to which the abstract_origin of one leads
abbrev pub origin_of : Info → Die → Option Die
origin_of info d = linked info at_abstract_origin d

-- an entry, and those to which one abstract_origin after the other leads, in at most so many steps
abbrev pub with_origins : ℕ → Info → Option Die → List Die
with_origins steps info None = []
with_origins zero info (Some d) = d ∷ []
with_origins (suc steps) info (Some d) = d ∷ with_origins steps info (origin_of info d)

-- the same in at most 8 steps
abbrev pub origins : Info → Die → List Die
origins info d = with_origins 8 info (Some d)

-- the first of them that has the attribute
abbrev pub bearer_of : ℕ → Info → Die → Option Die
bearer_of code info d = find (λ o. has code o.entry) (origins info d)

abbrev pub has_origin : Option Die → Bool
has_origin None = false
has_origin (Some d) = has at_abstract_origin d.entry

-- whether an abstract_origin more is there after 8 steps
abbrev pub goes_on : Info → Die → Bool
goes_on info d = has_origin (slice_get (origins info d) 8)

-- the attribute isn't found in 8 steps, though there is a further one
abbrev pub is_too_far : ℕ → Info → Die → Bool
is_too_far code info d = is_none (bearer_of code info d) && goes_on info d

-- the entry has no name, nor does one to which its origins lead
abbrev pub is_unnamed : Info → Die → Bool
is_unnamed info d = is_none (bearer_of at_name info d) && not (goes_on info d)
