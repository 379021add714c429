-- The numbers of registers in DWARF, on x86-64: 0 to 15 the general ones, 17 to 32 the others. 16 is the return address.
use Rattle.std.specs.Prelude.{ℕ, ◌+◌, ◌-◌, ◌==◌, nat_lt, if◌then◌else◌, slice_get, Option, None}
use Rattle.snapshot_file.specs.declared.registers.Reg.{Reg}
use Rattle.snapshot_file.specs.Registers as registers

-- the register of a number; None for every other number
abbrev pub reg_at : ℕ → Option Reg
reg_at n = if nat_lt n 16 then slice_get registers.all_regs n else if n == 16 then None else slice_get registers.all_regs (n - 1)

-- the number of a register
abbrev pub number_of : Reg → ℕ
number_of reg = if nat_lt (registers.number_of reg) 16 then registers.number_of reg else registers.number_of reg + 1
