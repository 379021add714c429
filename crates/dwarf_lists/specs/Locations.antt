-- Location lists, with the bytes of their expressions: DWARF 5, 2.6.2 and 7.7.3.
use Rattle.std.specs.Prelude.{ℕ, nat_lt, Bool, false, if◌then◌else◌, List, [], ◌∷◌, ◌++◌, Option, Some, None}
use Rattle.expr_eval.specs.Addresses.{Addresses}
use Rattle.rv_bytes.specs.Forms.{Form, made, Steps, row}
use Rattle.dwarf_list_entries.specs.Entries.{base_after, bounds_from}
use Rattle.dwarf_list_entries.specs.Locations.{Bytes, Located, bytes_seen, location_entry}
use Rattle.dwarf_list_entries.specs.declared.entry.Bounds.{Bounds}
use Rattle.dwarf_lists.specs.Ranges.{is_end}
use Rattle.dwarf_lists.specs.declared.locations.BoundedLocation.{BoundedLocation}

abbrev pub after_located : Bool → Located → Bool
after_located _ e = is_end e.entry

-- entries, of which the last, and no other, is the end of the list
abbrev pub location_entries : Addresses → Steps Bool Located ℕ
location_entries addrs = record { over = λ b. b; due = λ _. location_entry addrs; next = after_located }

-- bounds, and the bytes of the expression that says where a variable is within them
pub record Location : Type 0 where
  pub bounds : Bounds
  pub expression : Bytes

abbrev pub location : Bounds → Bytes → Location
location bounds expression = record { bounds = bounds; expression = expression }

-- the location that a `BoundedLocation` is
abbrev pub location_seen : BoundedLocation → Location
location_seen l = location l.bounds (bytes_seen l.expression)

-- an expression within bounds, if there are addresses between them
abbrev pub within_bounds : Option Bounds → Option Bytes → List Location
within_bounds None expression = []
within_bounds (Some b) None = []
within_bounds (Some b) (Some expression) = if nat_lt b.lo b.hi then location b expression ∷ [] else []

-- the location that one entry says from a base, if it says one
abbrev pub locations_of : ℕ → Located → List Location
locations_of base e = within_bounds (bounds_from base e.entry) e.expression

-- the locations that entries say, each from the base that the entries before it leave
abbrev pub locations : ℕ → List Located → List Location
locations base [] = []
locations base (e ∷ es) = locations_of base e ++ locations (base_after base e.entry) es

-- a location list, and the locations that it says
abbrev pub location_list : Addresses → ℕ → Form ℕ (List Location)
location_list addrs base = made (locations base) (row (location_entries addrs) false)
