use Rattle.std.proofs.Common.{◌≡◌, ◌++◌}
use Rattle.std.specs.List.{flat_map}
use Rattle.rust_value.specs.Texts.{escaped}
use Rattle.rust_value.proofs.scalars.put_escapes.Given as goal

-- the characters so far are put
abbrev pub invariant-loop-c : goal.invariant-loop-c
invariant-loop-c l = l.out ≡ l.fn.out ++ flat_map (escaped 34) l.yielded
