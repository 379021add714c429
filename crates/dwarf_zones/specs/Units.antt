-- What the first entry of a unit says for all others: DWARF 5, 3.1.1.
use Rattle.std.specs.Prelude.{ℕ, List, [], ◌∷◌, Option, option_and_then, unwrap_or}
use Rattle.dwarf_entries.specs.Codes.{at_low_pc}
use Rattle.dwarf_entries.specs.Dies.{Die, Info, ancestors, offset_in}
use Rattle.dwarf_entries.specs.Lookups.{value_of}
use Rattle.dwarf_entries.specs.Texts.{address_in}
use Rattle.expr_eval.specs.Addresses.{Addresses}

-- the last of these entries, where there is one, and else this one
abbrev pub last_or : Die → List Die → Die
last_or d [] = d
last_or d (o ∷ others) = last_or o others

-- the first entry of the unit of an entry
abbrev pub root_of : Die → Die
root_of d = last_or d (ancestors d)

-- where in another section the unit's part starts, by the attribute with this code
abbrev pub base_by : ℕ → Die → Option ℕ
base_by code d = option_and_then offset_in (value_of code (root_of d).entry)

-- the address of the first attribute with this code
abbrev pub address_by : ℕ → Info → Die → Option ℕ
address_by code info d = option_and_then (address_in info.sections d.bases) (value_of code d.entry)

-- the unit's base address: what offsets in lists count from, up to an entry that gives another base; 0 where it is missing
abbrev pub base_address : Info → Die → ℕ
base_address info d = unwrap_or (address_by at_low_pc info (root_of d)) 0

-- the addresses that the unit's indexes name
abbrev pub addresses_of : Info → Die → Addresses
addresses_of info d = record { section = info.sections.addrs; base = d.bases.addrs }
