-- The turns of the loops that read lists: what was said, before what is still to be said, is the whole.
use Rattle.std.proofs.Common.{◌≡◌, ◌<◌, ℕ, true, false, List, [], ◌++◌, length, Option, refl, ap, subst, ◌∙◌, append-nil}
use Rattle.expr_eval.specs.Addresses.{Addresses}
use Rattle.layout_set.specs.declared.func.Zone.{Zone}
use Rattle.rv_bytes.specs.Readers.{Res, got, bad, with_value}
use Rattle.rv_bytes.proofs.Turns.{shorter}
use Rattle.dwarf_list_entries.specs.Entries.{base_after, bounds_from}
use Rattle.dwarf_list_entries.specs.Locations.{Bytes, Located}
use Rattle.dwarf_list_entries.specs.Readers.{read_range_entry, read_location_entry}
use Rattle.dwarf_list_entries.specs.declared.entry.ListEntry.{ListEntry}
use Rattle.dwarf_lists.specs.Ranges.{is_end, range_entries, zones_of, ranges}
use Rattle.dwarf_lists.specs.Locations.{Location, location_entries, within_bounds, locations_of, locations}
use Rattle.dwarf_lists.specs.Readers.{read_range_entries, read_location_entries}
use Rattle.dwarf_lists.proofs.ListsExact.{range_byte, range_all, location_byte, location_all}
use Rattle.dwarf_lists.proofs.Turns as turns

-- what entries of a range list say
abbrev say_ranges : turns.Sayings ListEntry ℕ Zone
say_ranges = record {
  one = λ base e. zones_of (bounds_from base e);
  after = base_after;
  all = ranges;
  none = λ base. refl;
  more = λ base e es. refl;
}

abbrev pub RangesSoFar : Addresses → Res ℕ (List Zone) → List Zone → ℕ → ℕ → List ℕ → Type 0
RangesSoFar addrs whole acc base n t = with_value (λ es. acc ++ ranges base es) (read_range_entries addrs false n t) ≡ whole

-- an end says nothing
end_is_no_range : (base : ℕ) (e : ListEntry) → is_end e ≡ true → zones_of (bounds_from base e) ≡ []
end_is_no_range base ListEntry.EndOfList h = refl
end_is_no_range base (ListEntry.BaseAddress a) h = absurd (cc)
end_is_no_range base (ListEntry.OffsetPair a b) h = absurd (cc)
end_is_no_range base (ListEntry.StartEnd a b) h = absurd (cc)

-- the end of list ends the ranges
pub ranges_end : (addrs : Addresses) (whole : Res ℕ (List Zone)) (acc : List Zone) (base n : ℕ) (t : List ℕ) (e : ListEntry) (m : ℕ) (k : List ℕ)
    → RangesSoFar addrs whole acc base n t → read_range_entry addrs n t ≡ got e m k → is_end e ≡ true → whole ≡ got acc m k
ranges_end addrs whole acc base n t e m k so r h =
    turns.done (range_entries addrs) (λ _. read_range_entry addrs) 0 say_ranges whole (acc ++ zones_of (bounds_from base e)) (base_after base e) (is_end e) m k
    (turns.goes_on (range_entries addrs) (λ _. read_range_entry addrs) 0 say_ranges (range_byte addrs) (range_all addrs) whole acc base false n t e m k so refl r) h
    ∙ ap (λ z. got z m k) (ap (λ z. acc ++ z) (end_is_no_range base e h) ∙ append-nil acc)

-- after another entry they go on
pub ranges_on : (addrs : Addresses) (whole : Res ℕ (List Zone)) (acc : List Zone) (base n : ℕ) (t : List ℕ) (e : ListEntry) (m : ℕ) (k : List ℕ)
    → RangesSoFar addrs whole acc base n t → read_range_entry addrs n t ≡ got e m k → is_end e ≡ false → RangesSoFar addrs whole (acc ++ zones_of (bounds_from base e)) (base_after base e) m k
ranges_on addrs whole acc base n t e m k so r h =
    subst (λ b. with_value (λ es. (acc ++ zones_of (bounds_from base e)) ++ ranges (base_after base e) es) (read_range_entries addrs b m k) ≡ whole) h
    (turns.goes_on (range_entries addrs) (λ _. read_range_entry addrs) 0 say_ranges (range_byte addrs) (range_all addrs) whole acc base false n t e m k so refl r)

-- an invalid entry is the list's first error
pub ranges_bad : (addrs : Addresses) (whole : Res ℕ (List Zone)) (acc : List Zone) (base n : ℕ) (t : List ℕ) (q m : ℕ)
    → RangesSoFar addrs whole acc base n t → read_range_entry addrs n t ≡ bad q m → whole ≡ bad q m
ranges_bad addrs whole acc base n t q m so r = turns.failed (range_entries addrs) (λ _. read_range_entry addrs) 0 say_ranges whole acc base false n t q m so refl r

pub range_shorter : (addrs : Addresses) (n : ℕ) (t : List ℕ) (e : ListEntry) (m : ℕ) (k : List ℕ) → read_range_entry addrs n t ≡ got e m k → length k < length t
range_shorter addrs n t e m k r = shorter (range_entries addrs) (λ _. read_range_entry addrs) (range_byte addrs) (range_all addrs) false n t e m k refl r

-- The same for location lists.
abbrev say_locations : turns.Sayings Located ℕ Location
say_locations = record {
  one = locations_of;
  after = λ base e. base_after base e.entry;
  all = locations;
  none = λ base. refl;
  more = λ base e es. refl;
}

abbrev pub LocationsSoFar : Addresses → Res ℕ (List Location) → List Location → ℕ → ℕ → List ℕ → Type 0
LocationsSoFar addrs whole acc base n t = with_value (λ es. acc ++ locations base es) (read_location_entries addrs false n t) ≡ whole

-- an end says nothing
end_is_no_location : (base : ℕ) (e : ListEntry) (x : Option Bytes) → is_end e ≡ true → within_bounds (bounds_from base e) x ≡ []
end_is_no_location base ListEntry.EndOfList x h = refl
end_is_no_location base (ListEntry.BaseAddress a) x h = absurd (cc)
end_is_no_location base (ListEntry.OffsetPair a b) x h = absurd (cc)
end_is_no_location base (ListEntry.StartEnd a b) x h = absurd (cc)

-- the end of list ends the locations
pub locations_end : (addrs : Addresses) (whole : Res ℕ (List Location)) (acc : List Location) (base n : ℕ) (t : List ℕ) (e : Located) (m : ℕ) (k : List ℕ)
    → LocationsSoFar addrs whole acc base n t → read_location_entry addrs n t ≡ got e m k → is_end e.entry ≡ true → whole ≡ got acc m k
locations_end addrs whole acc base n t e m k so r h =
    turns.done (location_entries addrs) (λ _. read_location_entry addrs) 0 say_locations whole (acc ++ locations_of base e) (base_after base e.entry) (is_end e.entry) m k
    (turns.goes_on (location_entries addrs) (λ _. read_location_entry addrs) 0 say_locations (location_byte addrs) (location_all addrs) whole acc base false n t e m k so refl r) h
    ∙ ap (λ z. got z m k) (ap (λ z. acc ++ z) (end_is_no_location base e.entry e.expression h) ∙ append-nil acc)

-- after another entry they go on
pub locations_on : (addrs : Addresses) (whole : Res ℕ (List Location)) (acc : List Location) (base n : ℕ) (t : List ℕ) (e : Located) (m : ℕ) (k : List ℕ)
    → LocationsSoFar addrs whole acc base n t → read_location_entry addrs n t ≡ got e m k → is_end e.entry ≡ false → LocationsSoFar addrs whole (acc ++ locations_of base e) (base_after base e.entry) m k
locations_on addrs whole acc base n t e m k so r h =
    subst (λ b. with_value (λ es. (acc ++ locations_of base e) ++ locations (base_after base e.entry) es) (read_location_entries addrs b m k) ≡ whole) h
    (turns.goes_on (location_entries addrs) (λ _. read_location_entry addrs) 0 say_locations (location_byte addrs) (location_all addrs) whole acc base false n t e m k so refl r)

-- an invalid entry is the list's first error
pub locations_bad : (addrs : Addresses) (whole : Res ℕ (List Location)) (acc : List Location) (base n : ℕ) (t : List ℕ) (q m : ℕ)
    → LocationsSoFar addrs whole acc base n t → read_location_entry addrs n t ≡ bad q m → whole ≡ bad q m
locations_bad addrs whole acc base n t q m so r = turns.failed (location_entries addrs) (λ _. read_location_entry addrs) 0 say_locations whole acc base false n t q m so refl r

pub location_shorter : (addrs : Addresses) (n : ℕ) (t : List ℕ) (e : Located) (m : ℕ) (k : List ℕ) → read_location_entry addrs n t ≡ got e m k → length k < length t
location_shorter addrs n t e m k r = shorter (location_entries addrs) (λ _. read_location_entry addrs) (location_byte addrs) (location_all addrs) false n t e m k refl r
