use Rattle.std.proofs.Common.{◌≡◌, map, drop}
use Rattle.rust_value.specs.Held.{part_of}
use Rattle.rust_value.specs.Texts.{are_numbered, shown_part}
use Rattle.rust_value.proofs.printing_in.has_numbered.Given as goal

-- the names so far are those of a tuple's fields: it remains to look at the others
abbrev pub invariant-loop-i : goal.invariant-loop-i
invariant-loop-i l = are_numbered l.i (map shown_part (map part_of (drop l.i l.parts))) ≡ are_numbered 0 (map shown_part (map part_of l.parts))
