use Rattle.std.proofs.Common.{◌≡◌, drop}
use Rattle.snapshot_file.specs.Registers.{named_in}
use Rattle.snapshot_file.proofs.registers.named_in.Given as goal

abbrev pub invariant-loop-reg : goal.invariant-loop-reg
invariant-loop-reg l = named_in (drop l.reg-index l.regs) l.word ≡ named_in l.regs l.word
