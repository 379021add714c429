-- Range lists: DWARF 5, 2.17.3 and 7.25.
use Rattle.std.specs.Prelude.{ℕ, nat_lt, Bool, true, false, if◌then◌else◌, List, [], ◌∷◌, ◌++◌, Option, Some, None}
use Rattle.expr_eval.specs.Addresses.{Addresses}
use Rattle.layout_set.specs.declared.func.Zone.{Zone}
use Rattle.rv_bytes.specs.Forms.{Form, made, Steps, row}
use Rattle.dwarf_list_entries.specs.Entries.{range_entry, base_after, bounds_from}
use Rattle.dwarf_list_entries.specs.declared.entry.ListEntry.{ListEntry}
use Rattle.dwarf_list_entries.specs.declared.entry.Bounds.{Bounds}

-- whether the entry is the end of its list
abbrev pub is_end : ListEntry → Bool
is_end ListEntry.EndOfList = true
is_end (ListEntry.BaseAddress address) = false
is_end (ListEntry.OffsetPair start end) = false
is_end (ListEntry.StartEnd lo hi) = false

abbrev pub after_entry : Bool → ListEntry → Bool
after_entry _ e = is_end e

-- entries, of which the last, and no other, is the end of the list
abbrev pub range_entries : Addresses → Steps Bool ListEntry ℕ
range_entries addrs = record { over = λ b. b; due = λ _. range_entry addrs; next = after_entry }

-- the addresses between bounds, if there are some
abbrev pub zones_of : Option Bounds → List Zone
zones_of None = []
zones_of (Some b) = if nat_lt b.lo b.hi then (record { lo = b.lo; hi = b.hi }) ∷ [] else []

-- the ranges that entries say, each from the base that the entries before it leave
abbrev pub ranges : ℕ → List ListEntry → List Zone
ranges base [] = []
ranges base (e ∷ es) = zones_of (bounds_from base e) ++ ranges (base_after base e) es

-- a range list, and the ranges that it says
abbrev pub range_list : Addresses → ℕ → Form ℕ (List Zone)
range_list addrs base = made (ranges base) (row (range_entries addrs) false)
