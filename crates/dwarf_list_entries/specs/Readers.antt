-- The readers of entries, for proofs.
use Rattle.std.specs.Prelude.{ℕ, if◌then◌else◌, Option, Some, None}
use Rattle.expr_eval.specs.Addresses.{Addresses}
use Rattle.rv_bytes.specs.Rules.{outside}
use Rattle.rv_bytes.specs.Readers.{got, bad, Reader, and_then, with_value, as_item}
use Rattle.rv_bytes.specs.NumberReaders.{read_bytes, read_number, read_uleb}
use Rattle.rv_bytes.specs.declared.err.DwErr.{DwErr}
use Rattle.dwarf_list_entries.specs.Rules.{unknown_kind}
use Rattle.dwarf_list_entries.specs.Kinds.{location_kind, range_kind, has_expression}
use Rattle.dwarf_list_entries.specs.Entries.{looked_up, any_value}
use Rattle.dwarf_list_entries.specs.Locations.{Bytes, Located, bytes_at, located}
use Rattle.dwarf_list_entries.specs.declared.kind.Kind.{Kind}
use Rattle.dwarf_list_entries.specs.declared.operands.RawEntry.{RawEntry}
use Rattle.dwarf_list_entries.specs.declared.operands.RawEntry.TheVariants as raw
use Rattle.dwarf_list_entries.specs.declared.entry.ListEntry.{ListEntry}

-- the same refusal, of the item that begins at this place
abbrev pub moved : ℕ → DwErr → DwErr
moved at (DwErr.Refused offset rule) = DwErr.Refused at rule
moved at DwErr.Memory = DwErr.Memory

-- the reader of `two`
abbrev pub read_two : {A : Type 0} → (ℕ → ℕ → A) → Reader ℕ ℕ → Reader ℕ ℕ → Reader ℕ A
read_two f first second n s = and_then (first n s) (λ a m k. with_value (f a) (second m k))

-- the reader of `operands`
abbrev pub read_operands : Kind → Reader ℕ RawEntry
read_operands Kind.EndOfList n s = got raw.EndOfList n s
read_operands Kind.BaseAddressx n s = with_value raw.BaseAddressx (read_uleb n s)
read_operands Kind.StartxEndx n s = read_two raw.StartxEndx read_uleb read_uleb n s
read_operands Kind.StartxLength n s = read_two raw.StartxLength read_uleb read_uleb n s
read_operands Kind.OffsetPair n s = read_two raw.OffsetPair read_uleb read_uleb n s
read_operands Kind.BaseAddress n s = with_value raw.BaseAddress (read_number 8 n s)
read_operands Kind.StartEnd n s = read_two raw.StartEnd (read_number 8) (read_number 8) n s
read_operands Kind.StartLength n s = read_two raw.StartLength (read_number 8) read_uleb n s

-- the reader of `found`
abbrev pub read_found : Option ListEntry → Reader ℕ ListEntry
read_found None n s = bad outside n
read_found (Some e) n s = got e n s

-- the reader of `range_rest`
abbrev pub read_range_rest : Addresses → Option Kind → Reader ℕ ListEntry
read_range_rest addrs None n s = bad unknown_kind n
read_range_rest addrs (Some kind) n s = and_then (read_operands kind n s) (λ raw. read_found (looked_up addrs raw))

-- the reader of a code, and of what follows it
abbrev pub read_coded_range : Addresses → Reader ℕ ListEntry
read_coded_range addrs n s = and_then (read_number 1 n s) (λ code. read_range_rest addrs (range_kind code))

-- the reader of `range_entry`
abbrev pub read_range_entry : Addresses → Reader ℕ ListEntry
read_range_entry addrs n s = as_item any_value n (read_coded_range addrs n s)

-- the reader of `counted`
abbrev pub read_counted : Reader ℕ Bytes
read_counted n s = and_then (read_uleb n s) (λ count m k. with_value (bytes_at m) (read_bytes count m k))

-- the reader of `expression`
abbrev pub read_expression : Kind → Reader ℕ (Option Bytes)
read_expression kind n s = if has_expression kind then with_value (λ b. Some b) (read_counted n s) else got None n s

-- the reader of `location_rest`
abbrev pub read_location_rest : Addresses → Option Kind → Reader ℕ Located
read_location_rest addrs None n s = bad unknown_kind n
read_location_rest addrs (Some kind) n s =
    and_then (read_operands kind n s) (λ raw m k. and_then (read_expression kind m k) (λ e j l. with_value (located e) (read_found (looked_up addrs raw) j l)))

-- the reader of a code, and of what follows it
abbrev pub read_coded_location : Addresses → Reader ℕ Located
read_coded_location addrs n s = and_then (read_number 1 n s) (λ code. read_location_rest addrs (location_kind code))

-- the reader of `location_entry`
abbrev pub read_location_entry : Addresses → Reader ℕ Located
read_location_entry addrs n s = as_item any_value n (read_coded_location addrs n s)
