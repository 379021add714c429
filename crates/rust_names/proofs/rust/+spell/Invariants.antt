use Rattle.std.proofs.Common.{◌≡◌, ◌++◌, map, take, codes}
use Rattle.rust_names.specs.RustText.{rust_text, seg_text}
use Rattle.names.specs.Joined.{joined}
use Rattle.rust_names.proofs.rust.+spell.Given as goal

-- the names so far are put
abbrev pub invariant-put_names-loop-i : goal.invariant-put_names-loop-i
invariant-put_names-loop-i l = l.out ≡ l.initial.out ++ joined l.between (map rust_text (take l.i l.names))

-- the segments so far are put
abbrev pub invariant-put_segs-loop-i : goal.invariant-put_segs-loop-i
invariant-put_segs-loop-i l = l.out ≡ l.initial.out ++ joined (codes "::") (map seg_text (take l.i l.segs))
