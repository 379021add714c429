-- The entries of range lists, and what an entry of either list says: DWARF 5, 2.17.3 and 2.6.2.
use Rattle.std.specs.Prelude.{ℕ, ◌+◌, ◌%◌, ◌^◌, Option, Some, None, option_map, option_and_then}
use Rattle.expr_eval.specs.Addresses.{address_at}
use Rattle.expr_eval.specs.Addresses.{Addresses}
use Rattle.rv_bytes.specs.Rules.{outside}
use Rattle.rv_bytes.specs.Forms.{Form, nothing, follow, item, fails}
use Rattle.rv_bytes.specs.Numbers.{number}
use Rattle.dwarf_list_entries.specs.Rules.{unknown_kind}
use Rattle.dwarf_list_entries.specs.Kinds.{range_kind}
use Rattle.dwarf_list_entries.specs.Operands.{operands}
use Rattle.dwarf_list_entries.specs.declared.kind.Kind.{Kind}
use Rattle.dwarf_list_entries.specs.declared.operands.RawEntry.{RawEntry}
use Rattle.dwarf_list_entries.specs.declared.entry.ListEntry.{ListEntry}
use Rattle.dwarf_list_entries.specs.declared.entry.ListEntry.TheVariants as says
use Rattle.dwarf_list_entries.specs.declared.entry.Bounds.{Bounds}

-- the sum of an address and a number of bytes
abbrev pub sum : ℕ → ℕ → ℕ
sum address n = (address + n) % 2 ^ 64

-- the address at an index of `.debug_addr`
abbrev pub indexed : Addresses → ℕ → Option ℕ
indexed addrs index = address_at 8 addrs.section addrs.base index

-- an entry with the addresses of its indexes, where they have some
abbrev pub looked_up : Addresses → RawEntry → Option ListEntry
looked_up addrs RawEntry.EndOfList = Some says.EndOfList
looked_up addrs (RawEntry.BaseAddressx index) = option_map says.BaseAddress (indexed addrs index)
looked_up addrs (RawEntry.StartxEndx start end) = option_and_then (λ lo. option_map (says.StartEnd lo) (indexed addrs end)) (indexed addrs start)
looked_up addrs (RawEntry.StartxLength start len) = option_map (λ lo. says.StartEnd lo (sum lo len)) (indexed addrs start)
looked_up addrs (RawEntry.OffsetPair start end) = Some (says.OffsetPair start end)
looked_up addrs (RawEntry.BaseAddress address) = Some (says.BaseAddress address)
looked_up addrs (RawEntry.StartEnd lo hi) = Some (says.StartEnd lo hi)
looked_up addrs (RawEntry.StartLength lo len) = Some (says.StartEnd lo (sum lo len))

-- the base after an entry: it is another only after a base address
abbrev pub base_after : ℕ → ListEntry → ℕ
base_after base ListEntry.EndOfList = base
base_after base (ListEntry.BaseAddress address) = address
base_after base (ListEntry.OffsetPair start end) = base
base_after base (ListEntry.StartEnd lo hi) = base

-- the addresses that an entry is about, if it is about some: offsets count from the base
abbrev pub bounds_from : ℕ → ListEntry → Option Bounds
bounds_from base ListEntry.EndOfList = None
bounds_from base (ListEntry.BaseAddress address) = None
bounds_from base (ListEntry.OffsetPair start end) = Some (record { lo = sum base start; hi = sum base end })
bounds_from base (ListEntry.StartEnd lo hi) = Some (record { lo = lo; hi = hi })

-- an entry that was looked up; an index that has no address is invalid
abbrev pub found : Option ListEntry → Form ℕ ListEntry
found None = fails outside
found (Some e) = nothing e

-- what follows the code of a kind; a code of no kind is invalid
abbrev pub range_rest : Addresses → Option Kind → Form ℕ ListEntry
range_rest addrs None = fails unknown_kind
range_rest addrs (Some kind) = follow (operands kind) (λ raw. found (looked_up addrs raw))

-- no value breaks a rule by itself
abbrev pub any_value : {A : Type 0} → A → Option ℕ
any_value v = None

-- an entry of a range list, which is one item
abbrev pub range_entry : Addresses → Form ℕ ListEntry
range_entry addrs = item (follow (number 1) (λ code. range_rest addrs (range_kind code))) any_value
