-- Expressions that are one address, `nop` aside: DWARF 5, 2.5.1.1, 2.5.1.7 and 7.7.1.
use Rattle.std.specs.Prelude.{ℕ, ◌+◌, ◌==◌, not, Bool, if◌then◌else◌, List, drop, position, slice_index, Option, Some, None, option_and_then}
use Rattle.std.specs.List.{list_all}
use Rattle.rv_bytes.specs.NumberReaders.{read_number, read_uleb}
use Rattle.rv_bytes.specs.Readers.{Res, got, bad}
use Rattle.dwarf_entries.specs.Shapes.{Sections}
use Rattle.dwarf_entries.specs.Texts.{indexed}
use Rattle.dwarf_entries.specs.declared.static_address.Address.{Address}
use Rattle.dwarf_entries.specs.declared.static_address.AddressOp.{AddressOp}
use Rattle.dwarf_entries.specs.declared.sections.Bases.{Bases}

abbrev pub op_addr : ℕ
op_addr = 0x03

abbrev pub op_nop : ℕ
op_nop = 0x96

abbrev pub op_addrx : ℕ
op_addrx = 0xa1

abbrev pub are_nops : List ℕ → Bool
are_nops bytes = list_all (λ op. op == op_nop) bytes

-- the operation at this place has this number, and after it are only `nop`s
abbrev pub alone : ℕ → (ℕ → Address) → Res ℕ ℕ → Option AddressOp
alone place address (got n past rest) = if are_nops rest then Some (record { place = place; address = address n }) else None
alone place address (bad rule at) = None

-- this operation, which is at this place and has these bytes after it, is one of an address
abbrev pub op_by : ℕ → ℕ → List ℕ → Option AddressOp
op_by place op bytes =
    if op == op_addr then alone place Address.Fixed (read_number 8 (place + 1) bytes)
    else if op == op_addrx then alone place Address.Index (read_uleb (place + 1) bytes)
    else None

-- where the first operation is that isn't `nop`
abbrev pub first_op : List ℕ → Option ℕ
first_op bytes = position (λ op. not (op == op_nop)) bytes

-- the one operation of an expression that isn't `nop`, where it is one of an address
abbrev pub address_op_of : List ℕ → Option AddressOp
address_op_of bytes = option_and_then (λ place. op_by place (slice_index bytes place) (drop (place + 1) bytes)) (first_op bytes)

-- an address, or the one at an index; None where the index leads to none
abbrev pub address_at : Sections → Bases → Address → Option ℕ
address_at sections bases (Address.Fixed n) = Some n
address_at sections bases (Address.Index i) = indexed 8 sections.addrs bases.addrs i
