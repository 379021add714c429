use Rattle.std.proofs.Common.{◌≡◌, ◌++◌, map, take, codes}
use Rattle.names.specs.Joined.{joined}
use Rattle.rust_value.specs.Held.{value_of, part_of}
use Rattle.rust_value.specs.Texts.{text_of, shown_part, named_text}
use Rattle.rust_value.proofs.printing_in.+printing.Given as goal

-- the parts so far are put, without their names
abbrev pub invariant-put_unnamed-loop-i : goal.invariant-put_unnamed-loop-i
invariant-put_unnamed-loop-i l = l.out ≡ l.initial.out ++ joined (codes ", ") (map (λ part. (shown_part part).1) (map part_of (take l.i l.parts)))

-- the parts so far are put
abbrev pub invariant-put_named-loop-i : goal.invariant-put_named-loop-i
invariant-put_named-loop-i l = l.out ≡ l.initial.out ++ joined (codes ", ") (map (λ part. named_text (shown_part part)) (map part_of (take l.i l.parts)))

-- the values so far are put
abbrev pub invariant-put_values-loop-i : goal.invariant-put_values-loop-i
invariant-put_values-loop-i l = l.out ≡ l.initial.out ++ joined (codes ", ") (map text_of (map value_of (take l.i l.values)))
