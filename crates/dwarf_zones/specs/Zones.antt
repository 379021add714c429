-- The addresses of a scope: DWARF 5, 2.17.
use Rattle.std.specs.Prelude.{◌≡◌, ℕ, ℤ, ◌+◌, ◌%◌, ◌^◌, nat_lt, if◌then◌else◌, List, [], ◌∷◌, drop, Option, Some, None, option_and_then, Result, Ok, Err}
use Rattle.dwarf_abbrev.specs.Values.{Val}
use Rattle.dwarf_entries.specs.Codes.{at_high_pc, at_low_pc, at_ranges}
use Rattle.dwarf_entries.specs.Dies.{Die, Info}
use Rattle.dwarf_entries.specs.Discriminants.{modulo_bytes}
use Rattle.dwarf_entries.specs.Items.{Spot}
use Rattle.dwarf_entries.specs.Lookups.{constant_in, value_of}
use Rattle.dwarf_entries.specs.TextResults.{spot_of}
use Rattle.dwarf_entries.specs.Texts.{address_in}
use Rattle.dwarf_lists.specs.Readers.{read_range_list}
use Rattle.dwarf_zones.specs.Lists.{ranges_place}
use Rattle.dwarf_zones.specs.Units.{address_by, addresses_of, base_address}
use Rattle.layout_set.specs.declared.func.Zone.{Zone}
use Rattle.layout_set.specs.declared.refusal.ReadErr.{ReadErr}
use Rattle.layout_set.specs.declared.refusal.Section.{Section}
use Rattle.rv_bytes.specs.Readers.{Res, got, bad}
use Rattle.rv_bytes.specs.declared.err.DwErr.{DwErr}

-- the zone between two addresses, if there is an address in it
abbrev pub between : ℕ → ℕ → List Zone
between lo hi = if nat_lt lo hi then record { lo = lo; hi = hi } ∷ [] else []

-- the same of two ends that are told as one, if they are told
abbrev pub zones_between : Option Zone → List Zone
zones_between None = []
zones_between (Some zone) = between zone.lo zone.hi

abbrev pub end_after : ℕ → Option ℤ → Option ℕ → Option ℕ
end_after low (Some z) address = Some ((low + modulo_bytes 8 z) % 2 ^ 64)
end_after low None address = address

-- the end of a scope that begins at this address: a constant is added to that, and sums wrap at 2^64
abbrev pub end_of : Info → Die → ℕ → Val → Option ℕ
end_of info d low v = end_after low (constant_in v) (address_in info.sections d.bases v)

abbrev zone_to : ℕ → Option ℕ → List Zone
zone_to low None = []
zone_to low (Some high) = between low high

abbrev pub zone_from : Info → Die → Option ℕ → List Zone
zone_from info d None = []
zone_from info d (Some low) = zone_to low (option_and_then (end_of info d low) (value_of at_high_pc d.entry))

-- the one zone of a scope by its two ends
abbrev pub own_zone : Info → Die → List Zone
own_zone info d = zone_from info d (address_by at_low_pc info d)

-- the range list at a place, by the reader of range lists
abbrev pub list_at : Info → Die → ℕ → Res ℕ (List Zone)
list_at info d at = read_range_list (addresses_of info d) (base_address info d) at (drop at info.sections.ranges)

abbrev pub zones_read : Res ℕ (List Zone) → List Zone
zones_read (got zones past rest) = zones
zones_read (bad rule at) = []

abbrev pub fault_read : Res ℕ (List Zone) → Option (ℕ × Spot)
fault_read (got zones past rest) = None
fault_read (bad rule at) = Some (rule, record { section = Section.RngLists; offset = at })

abbrev pub listed : Info → Die → Option ℕ → List Zone
listed info d None = []
listed info d (Some at) = zones_read (list_at info d at)

abbrev pub fault_listed : Info → Die → Option ℕ → Option (ℕ × Spot)
fault_listed info d None = None
fault_listed info d (Some at) = fault_read (list_at info d at)

abbrev pub zones_by : Info → Die → Option Val → List Zone
zones_by info d None = own_zone info d
zones_by info d (Some v) = listed info d (ranges_place info d v)

-- the zones of a scope: those of its range list, where it names one, and else the one between its ends
abbrev pub zones_of : Info → Die → List Zone
zones_of info d = zones_by info d (value_of at_ranges d.entry)

abbrev fault_by : Info → Die → Option Val → Option (ℕ × Spot)
fault_by info d None = None
fault_by info d (Some v) = fault_listed info d (ranges_place info d v)

-- the first rule that is broken in the range list of a scope, and where; that the list is outside its section is told elsewhere
abbrev pub zones_fault : Info → Die → Option (ℕ × Spot)
zones_fault info d = fault_by info d (value_of at_ranges d.entry)

-- the refusal of a range list, with its section
abbrev pub in_section : DwErr → ReadErr
in_section (DwErr.Refused offset rule) = ReadErr.Refused (record { section = Section.RngLists; offset = offset; rule = rule })
in_section DwErr.Memory = ReadErr.Memory

-- zones, where no rule is broken, or the first that is; out of memory says nothing of them
abbrev pub AnswersZones : List Zone → Option (ℕ × Spot) → Result (List Zone) ReadErr → Type 0
AnswersZones zones fault (Ok read) = (read ≡ zones) × (fault ≡ None)
AnswersZones zones fault (Err (ReadErr.Refused r)) = fault ≡ Some (r.rule, spot_of r)
AnswersZones zones fault (Err ReadErr.Memory) = Unit {0}
