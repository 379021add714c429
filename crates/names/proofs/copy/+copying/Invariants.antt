use Rattle.std.proofs.Common.{◌≡◌, take}
use Rattle.names.proofs.copy.+copying.Given as goal

-- the segments so far are copied
abbrev pub invariant-copy_segs-loop-seg : goal.invariant-copy_segs-loop-seg
invariant-copy_segs-loop-seg l = l.copies ≡ take l.seg-index l.segs

-- the names so far are copied
abbrev pub invariant-copy_names-loop-name : goal.invariant-copy_names-loop-name
invariant-copy_names-loop-name l = l.copies ≡ take l.name-index l.names
