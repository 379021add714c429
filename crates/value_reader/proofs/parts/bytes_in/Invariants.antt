use Rattle.std.proofs.Common.{◌≡◌, ◌++◌, drop}
use Rattle.std.specs.Option.{option_map}
use Rattle.snapshot_file.specs.Memory.{bytes_of}
use Rattle.image_view.specs.Places.{part_of}
use Rattle.value_reader.proofs.parts.bytes_in.Given as goal

-- the bytes so far, with the others, are all
abbrev pub invariant-loop-i : goal.invariant-loop-i
invariant-loop-i l = option_map (λ bytes. l.found.items ++ bytes) (bytes_of (drop l.i (part_of l.image))) ≡ bytes_of (part_of l.image)
