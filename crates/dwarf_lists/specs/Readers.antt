-- The readers of lists, for proofs.
use Rattle.std.specs.Prelude.{ℕ, Bool, false, List}
use Rattle.expr_eval.specs.Addresses.{Addresses}
use Rattle.layout_set.specs.declared.func.Zone.{Zone}
use Rattle.rv_bytes.specs.Readers.{Reader, with_value, read_row}
use Rattle.dwarf_list_entries.specs.Locations.{Located}
use Rattle.dwarf_list_entries.specs.Readers.{read_range_entry, read_location_entry}
use Rattle.dwarf_list_entries.specs.declared.entry.ListEntry.{ListEntry}
use Rattle.dwarf_lists.specs.Ranges.{after_entry, ranges}
use Rattle.dwarf_lists.specs.Locations.{Location, after_located, locations}

-- the reader of the row of `range_entries`; the list may be over
abbrev pub read_range_entries : Addresses → Bool → Reader ℕ (List ListEntry)
read_range_entries addrs ended n s = read_row (λ b. b) (λ _. read_range_entry addrs) after_entry 0 ended n s

-- the reader of `range_list`
abbrev pub read_range_list : Addresses → ℕ → Reader ℕ (List Zone)
read_range_list addrs base n s = with_value (ranges base) (read_range_entries addrs false n s)

-- the reader of the row of `location_entries`; the list may be over
abbrev pub read_location_entries : Addresses → Bool → Reader ℕ (List Located)
read_location_entries addrs ended n s = read_row (λ b. b) (λ _. read_location_entry addrs) after_located 0 ended n s

-- the reader of `location_list`
abbrev pub read_location_list : Addresses → ℕ → Reader ℕ (List Location)
read_location_list addrs base n s = with_value (locations base) (read_location_entries addrs false n s)
