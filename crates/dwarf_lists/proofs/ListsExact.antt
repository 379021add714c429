-- The readers of lists are exact.
use Rattle.std.proofs.Common.{◌<◌, ℕ, false, List, length, ap, arith, length-append}
use Rattle.expr_eval.specs.Addresses.{Addresses}
use Rattle.rv_bytes.specs.Forms.{Splits, row}
use Rattle.rv_bytes.specs.Numbers.{number}
use Rattle.rv_bytes.proofs.Exact.{Exact, made_exact}
use Rattle.rv_bytes.proofs.Rows.{HasBytes, AllExact, row_exact}
use Rattle.dwarf_list_entries.specs.Readers.{read_range_entry, read_location_entry}
use Rattle.dwarf_list_entries.proofs.EntriesExact.{range_entry_exact, location_entry_exact}
use Rattle.dwarf_lists.specs.Ranges.{range_entries, ranges, range_list}
use Rattle.dwarf_lists.specs.Locations.{location_entries, locations, location_list}
use Rattle.dwarf_lists.specs.Readers.{read_range_entries, read_range_list, read_location_entries, read_location_list}

-- what begins with the code of a kind has a byte
code_byte : {B : ℕ → List ℕ → Type 0} (n code : ℕ) (t : List ℕ) → Splits ((number 1).spells n code) B n t → 0 < length t
code_byte n code t w = omega (arith, w.is_front.1.1.1, ap length w.split, length-append w.front w.back)

pub range_byte : (addrs : Addresses) → HasBytes (range_entries addrs)
range_byte addrs s n v t o h = code_byte n h.0.0 t h.0.1

pub range_all : (addrs : Addresses) → AllExact (range_entries addrs) (λ _. read_range_entry addrs)
range_all addrs s o = range_entry_exact addrs

-- of a range list
pub range_list_exact : (addrs : Addresses) (base : ℕ) → Exact (range_list addrs base) (read_range_list addrs base)
range_list_exact addrs base =
    made_exact (ranges base) (row (range_entries addrs) false) (read_range_entries addrs false)
    (row_exact (range_entries addrs) (λ _. read_range_entry addrs) 0 (range_byte addrs) (range_all addrs) false)

pub location_byte : (addrs : Addresses) → HasBytes (location_entries addrs)
location_byte addrs s n v t o h = code_byte n h.0.0 t h.0.1

pub location_all : (addrs : Addresses) → AllExact (location_entries addrs) (λ _. read_location_entry addrs)
location_all addrs s o = location_entry_exact addrs

-- of a location list
pub location_list_exact : (addrs : Addresses) (base : ℕ) → Exact (location_list addrs base) (read_location_list addrs base)
location_list_exact addrs base =
    made_exact (locations base) (row (location_entries addrs) false) (read_location_entries addrs false)
    (row_exact (location_entries addrs) (λ _. read_location_entry addrs) 0 (location_byte addrs) (location_all addrs) false)
