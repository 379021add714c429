-- What is written of ranges: DWARF 5, 2.17.3 and 7.25.
use Rattle.std.specs.Prelude.{ℕ, nat_lt, Bool, List}
use Rattle.std.specs.List.{filter}
use Rattle.expr_eval.specs.Addresses.{Addresses}
use Rattle.layout_set.specs.declared.func.Zone.{Zone}
use Rattle.rv_bytes.specs.Writers.{IsPut}
use Rattle.dwarf_lists.specs.Ranges.{range_list}

-- whether some address is in the zone
abbrev pub has_address : Zone → Bool
has_address zone = nat_lt zone.lo zone.hi

-- bytes were appended that are, at each place, a list that says those of these ranges that have an address, whatever the base and the
-- addresses of indexes
abbrev pub PutsRanges : List Zone → List ℕ → List ℕ → Type 0
PutsRanges zones old new = (addrs : Addresses) (base : ℕ) → IsPut (range_list addrs base) (filter has_address zones) old new
