use Rattle.std.proofs.Common.{◌≡◌, drop}
use Rattle.rv_io.specs.MemInputs.{find_file}
use Rattle.rv_io.proofs.mem_inputs.find.Given as goal

abbrev pub invariant-loop-file : goal.invariant-loop-file
invariant-loop-file l = find_file l.name (drop l.file-index l.files) ≡ find_file l.name l.files
