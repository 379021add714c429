use Rattle.std.proofs.Common.{◌≡◌, ◌+◌, ◌*◌, drop}
use Rattle.rust_names.specs.RustGrammar.{fits, all_fit, segs_fit}
use Rattle.rust_names.proofs.fitting.+fitting.Given as goal

abbrev pub decreases-is_within : goal.decreases-is_within
decreases-is_within l = 3 * l.depth

abbrev pub decreases-are_within : goal.decreases-are_within
decreases-are_within l = 3 * l.depth + 1

abbrev pub decreases-are_segs_within : goal.decreases-are_segs_within
decreases-are_segs_within l = 3 * l.depth + 2

-- the rest decides
abbrev pub invariant-are_within-loop-name : goal.invariant-are_within-loop-name
invariant-are_within-loop-name l = all_fit (fits l.depth) l.names ≡ all_fit (fits l.depth) (drop l.name-index l.names)

abbrev pub invariant-are_segs_within-loop-seg : goal.invariant-are_segs_within-loop-seg
invariant-are_segs_within-loop-seg l = segs_fit (fits l.depth) l.segs ≡ segs_fit (fits l.depth) (drop l.seg-index l.segs)
