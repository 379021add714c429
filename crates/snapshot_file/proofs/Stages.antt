-- What stands before a line, by the last line that was read.
use Rattle.std.proofs.Common.{◌≡◌, ◌≢◌, ◌∙◌, ap, ℕ, ◌<◌, ◌≤◌, true, false, List, [], length, arith, lit<, Option, None}
use Rattle.std.proofs.lemmas.Bool.{ltb-false, ltb-true}
use Rattle.std.proofs.lemmas.List.{get_or-replicate}
use Rattle.snapshot_file.specs.declared.registers.Reg.{Reg}
use Rattle.snapshot_file.specs.declared.registers.Reg.TheVariants as regs
use Rattle.snapshot_file.specs.declared.snapshot.Stage.{Stage}
use Rattle.snapshot_file.specs.declared.snapshot.Stage.TheVariants as stages
use Rattle.snapshot_file.specs.declared.snapshot.Reading.{Reading}
use Rattle.snapshot_file.specs.declared.snapshot.Snapshot.{Snapshot}
use Rattle.snapshot_file.specs.Registers.{number_of, register, no_registers}
use Rattle.snapshot_file.specs.Reading.{is_above}
use Rattle.snapshot_file.specs.Faults.{Front, first, second, behind, IsBare, IsPassed}

abbrev pub front_of : Stage → Snapshot → Front
front_of stages.Nothing s = first
front_of stages.Version s = second
front_of _ s = behind s

-- the register is there, and none above it
abbrev pub IsLast : List (Option (List ℕ)) → Reg → Type 0
IsLast values last = (register values last ≢ None) × ((reg : Reg) → register values reg ≢ None → number_of reg ≤ number_of last)

-- what was read so far has this as its last line
abbrev pub Holds : Stage → Snapshot → Type 0
Holds stages.Nothing s = IsBare s
Holds stages.Version s = IsBare s
Holds stages.Pc s = IsBare s
Holds stages.Cfa s = (s.cfa ≢ None) × (s.regs ≡ no_registers) × (s.mem ≡ [])
Holds (stages.Register last) s = IsLast s.regs last × (s.mem ≡ [])
Holds stages.Memory s = s.mem ≢ []

pub record Keeps (r : Reading) : Type 0 where
  pub holds : Holds r.stage r.snapshot
  pub size : length r.snapshot.regs ≡ 32

pub number_low : (reg : Reg) → number_of reg < 32
number_low regs.Rax = lit< tt
number_low regs.Rdx = lit< tt
number_low regs.Rcx = lit< tt
number_low regs.Rbx = lit< tt
number_low regs.Rsi = lit< tt
number_low regs.Rdi = lit< tt
number_low regs.Rbp = lit< tt
number_low regs.Rsp = lit< tt
number_low regs.R8 = lit< tt
number_low regs.R9 = lit< tt
number_low regs.R10 = lit< tt
number_low regs.R11 = lit< tt
number_low regs.R12 = lit< tt
number_low regs.R13 = lit< tt
number_low regs.R14 = lit< tt
number_low regs.R15 = lit< tt
number_low regs.Xmm0 = lit< tt
number_low regs.Xmm1 = lit< tt
number_low regs.Xmm2 = lit< tt
number_low regs.Xmm3 = lit< tt
number_low regs.Xmm4 = lit< tt
number_low regs.Xmm5 = lit< tt
number_low regs.Xmm6 = lit< tt
number_low regs.Xmm7 = lit< tt
number_low regs.Xmm8 = lit< tt
number_low regs.Xmm9 = lit< tt
number_low regs.Xmm10 = lit< tt
number_low regs.Xmm11 = lit< tt
number_low regs.Xmm12 = lit< tt
number_low regs.Xmm13 = lit< tt
number_low regs.Xmm14 = lit< tt
number_low regs.Xmm15 = lit< tt

pub none_there : (reg : Reg) → register no_registers reg ≡ None
none_there reg = get_or-replicate 32 (number_of reg) None None (number_low reg)

pub no_last : (values : List (Option (List ℕ))) (last : Reg) → values ≡ no_registers → register values last ≢ None → ⊥
no_last values last e h = h (ap (λ vs. register vs last) e ∙ none_there last)

-- no register is passed where there is none
not_passed : (values : List (Option (List ℕ))) (reg : Reg) → values ≡ no_registers → IsPassed values reg → ⊥
not_passed values reg e p = no_last values p.0 e p.1.0

pub above_tells : (stage : Stage) (s : Snapshot) (reg : Reg) → Holds stage s → s.mem ≡ [] → is_above stage reg ≡ true → IsPassed s.regs reg → ⊥
above_tells stages.Nothing s reg h m t p = not_passed s.regs reg h.1 p
above_tells stages.Version s reg h m t p = not_passed s.regs reg h.1 p
above_tells stages.Pc s reg h m t p = not_passed s.regs reg h.1 p
above_tells stages.Cfa s reg h m t p = not_passed s.regs reg h.1 p
above_tells (stages.Register last) s reg h m t p =
    let above = ltb-true (number_of last) (number_of reg) t in
    let low = h.0.1 p.0 p.1.0 in
    omega (arith, above, low, p.1.1)
above_tells stages.Memory s reg h m t p = h m

pub passed_tells : (stage : Stage) (s : Snapshot) (reg : Reg) → Holds stage s → is_above stage reg ≡ false → IsPassed s.regs reg
passed_tells stages.Nothing s reg h f = absurd (cc)
passed_tells stages.Version s reg h f = absurd (cc)
passed_tells stages.Pc s reg h f = absurd (cc)
passed_tells stages.Cfa s reg h f = absurd (cc)
passed_tells (stages.Register last) s reg h f = (last, (h.0.0, ltb-false (number_of last) (number_of reg) f))
passed_tells stages.Memory s reg h f = absurd (cc)
