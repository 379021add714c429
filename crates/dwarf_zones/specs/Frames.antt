-- Frame bases: DWARF 5, 3.3.5, DW_AT_frame_base. One that isn't known breaks no rule by itself.
use Rattle.std.specs.Prelude.{ℕ, ◌+◌, ◌-◌, ◌==◌, ◌&&◌, nat_le, if◌then◌else◌, List, drop, slice_index, Option, Some, None}
use Rattle.dwarf_abbrev.specs.Values.{Val}
use Rattle.dwarf_entries.specs.AddressOps.{are_nops, first_op}
use Rattle.dwarf_entries.specs.Codes.{at_frame_base}
use Rattle.dwarf_entries.specs.Dies.{Die}
use Rattle.dwarf_entries.specs.Lookups.{value_of}
use Rattle.expr_bytes.specs.Codes as code
use Rattle.expr_bytes.specs.Registers.{reg_at}
use Rattle.expr_bytes.specs.declared.place.Frame.{Frame}
use Rattle.rv_bytes.specs.NumberReaders.{read_uleb}
use Rattle.rv_bytes.specs.Readers.{Res, got, bad}
use Rattle.snapshot_file.specs.declared.registers.Reg.{Reg}

-- the number in a register, where that is one of those that are read
abbrev pub in_register : Option Reg → Frame
in_register None = Frame.Unknown
in_register (Some reg) = Frame.Reg reg

-- a frame base that stands alone: only `nop` is after it
abbrev pub alone : Frame → List ℕ → Frame
alone frame bytes = if are_nops bytes then frame else Frame.Unknown

abbrev pub by_number : Res ℕ ℕ → Frame
by_number (got n past rest) = alone (in_register (reg_at n)) rest
by_number (bad rule at) = Frame.Unknown

-- this operation, with these bytes after it
abbrev pub by_op : ℕ → List ℕ → Frame
by_op op bytes =
    if nat_le code.reg0 op && nat_le op code.reg31 then alone (in_register (reg_at (op - code.reg0))) bytes
    else if op == code.regx then by_number (read_uleb 0 bytes)
    else if op == code.call_frame_cfa then alone Frame.Cfa bytes
    else Frame.Unknown

abbrev pub from_first : Option ℕ → List ℕ → Frame
from_first None bytes = Frame.Unknown
from_first (Some at) bytes = by_op (slice_index bytes at) (drop (at + 1) bytes)

-- the frame base that an expression is: one register or the frame's canonical address, `nop` aside
abbrev pub frame_in : List ℕ → Frame
frame_in bytes = from_first (first_op bytes) bytes

abbrev pub frame_by : Option Val → Frame
frame_by (Some (Val.Expr bytes)) = frame_in bytes
frame_by _ = Frame.Unknown

-- the frame base of a function
abbrev pub frame_of : Die → Frame
frame_of d = frame_by (value_of at_frame_base d.entry)
