-- Registers of x86-64, in the order of their numbers in DWARF.
use Rattle.std.specs.Prelude.{ℕ, nat_lt, List, [], ◌∷◌, Option, Some, None, replicate, set, slice_index_or, if◌then◌else◌, codes}
use Rattle.std.specs.Str.{bytes_eq}
use Rattle.std.specs.Int.{to_le_bytes, w64, w128}
use Rattle.snapshot_file.specs.declared.registers.Reg.{Reg}
use Rattle.snapshot_file.specs.declared.registers.Reg.TheVariants as regs

abbrev pub number_of : Reg → ℕ
number_of regs.Rax = 0
number_of regs.Rdx = 1
number_of regs.Rcx = 2
number_of regs.Rbx = 3
number_of regs.Rsi = 4
number_of regs.Rdi = 5
number_of regs.Rbp = 6
number_of regs.Rsp = 7
number_of regs.R8 = 8
number_of regs.R9 = 9
number_of regs.R10 = 10
number_of regs.R11 = 11
number_of regs.R12 = 12
number_of regs.R13 = 13
number_of regs.R14 = 14
number_of regs.R15 = 15
number_of regs.Xmm0 = 16
number_of regs.Xmm1 = 17
number_of regs.Xmm2 = 18
number_of regs.Xmm3 = 19
number_of regs.Xmm4 = 20
number_of regs.Xmm5 = 21
number_of regs.Xmm6 = 22
number_of regs.Xmm7 = 23
number_of regs.Xmm8 = 24
number_of regs.Xmm9 = 25
number_of regs.Xmm10 = 26
number_of regs.Xmm11 = 27
number_of regs.Xmm12 = 28
number_of regs.Xmm13 = 29
number_of regs.Xmm14 = 30
number_of regs.Xmm15 = 31

abbrev pub name_of : Reg → List ℕ
name_of regs.Rax = codes "rax"
name_of regs.Rdx = codes "rdx"
name_of regs.Rcx = codes "rcx"
name_of regs.Rbx = codes "rbx"
name_of regs.Rsi = codes "rsi"
name_of regs.Rdi = codes "rdi"
name_of regs.Rbp = codes "rbp"
name_of regs.Rsp = codes "rsp"
name_of regs.R8 = codes "r8"
name_of regs.R9 = codes "r9"
name_of regs.R10 = codes "r10"
name_of regs.R11 = codes "r11"
name_of regs.R12 = codes "r12"
name_of regs.R13 = codes "r13"
name_of regs.R14 = codes "r14"
name_of regs.R15 = codes "r15"
name_of regs.Xmm0 = codes "xmm0"
name_of regs.Xmm1 = codes "xmm1"
name_of regs.Xmm2 = codes "xmm2"
name_of regs.Xmm3 = codes "xmm3"
name_of regs.Xmm4 = codes "xmm4"
name_of regs.Xmm5 = codes "xmm5"
name_of regs.Xmm6 = codes "xmm6"
name_of regs.Xmm7 = codes "xmm7"
name_of regs.Xmm8 = codes "xmm8"
name_of regs.Xmm9 = codes "xmm9"
name_of regs.Xmm10 = codes "xmm10"
name_of regs.Xmm11 = codes "xmm11"
name_of regs.Xmm12 = codes "xmm12"
name_of regs.Xmm13 = codes "xmm13"
name_of regs.Xmm14 = codes "xmm14"
name_of regs.Xmm15 = codes "xmm15"

-- all registers, in their order
abbrev pub all_regs : List Reg
all_regs = regs.Rax ∷ regs.Rdx ∷ regs.Rcx ∷ regs.Rbx ∷ regs.Rsi ∷ regs.Rdi ∷ regs.Rbp ∷ regs.Rsp ∷ regs.R8 ∷ regs.R9 ∷ regs.R10 ∷ regs.R11 ∷ regs.R12 ∷ regs.R13 ∷ regs.R14 ∷ regs.R15 ∷ regs.Xmm0 ∷ regs.Xmm1 ∷ regs.Xmm2 ∷ regs.Xmm3 ∷ regs.Xmm4 ∷ regs.Xmm5 ∷ regs.Xmm6 ∷ regs.Xmm7 ∷ regs.Xmm8 ∷ regs.Xmm9 ∷ regs.Xmm10 ∷ regs.Xmm11 ∷ regs.Xmm12 ∷ regs.Xmm13 ∷ regs.Xmm14 ∷ regs.Xmm15 ∷ []

-- the first of the registers whose name is the word
abbrev pub named_in : List Reg → List ℕ → Option Reg
named_in [] word = None
named_in (reg ∷ rest) word = if bytes_eq word (name_of reg) then Some reg else named_in rest word

abbrev pub reg_of : List ℕ → Option Reg
reg_of word = named_in all_regs word

-- how many bytes a register has
abbrev pub width_of : Reg → ℕ
width_of reg = if nat_lt (number_of reg) 16 then 8 else 16

-- the bytes of a number in a register, low byte first
abbrev pub register_bytes : Reg → ℕ → List ℕ
register_bytes reg n = if nat_lt (number_of reg) 16 then to_le_bytes w64 n else to_le_bytes w128 n

-- no register
abbrev pub no_registers : List (Option (List ℕ))
no_registers = replicate 32 None

-- the bytes of a register, if it is there
abbrev pub register : List (Option (List ℕ)) → Reg → Option (List ℕ)
register values reg = slice_index_or values (number_of reg) None

-- the registers with one more
abbrev pub with_register : List (Option (List ℕ)) → Reg → ℕ → List (Option (List ℕ))
with_register values reg n = set values (number_of reg) (Some (register_bytes reg n))
