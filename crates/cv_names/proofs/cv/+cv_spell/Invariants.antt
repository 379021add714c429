use Rattle.std.proofs.Common.{◌≡◌, ◌++◌, map, take, codes, flat_map}
use Rattle.names.specs.Joined.{joined}
use Rattle.cv_names.specs.CvText.{cv_text, cv_seg_text}
use Rattle.cv_names.proofs.cv.+cv_spell.Given as goal

-- the names so far are put
abbrev pub invariant-put_cv_names-loop-i : goal.invariant-put_cv_names-loop-i
invariant-put_cv_names-loop-i l = l.out ≡ l.initial.out ++ joined (codes ",") (map cv_text (take l.i l.names))

-- the segments so far are put
abbrev pub invariant-put_cv_segs-loop-i : goal.invariant-put_cv_segs-loop-i
invariant-put_cv_segs-loop-i l = l.out ≡ l.initial.out ++ joined (codes "::") (map cv_seg_text (take l.i l.segs))

-- the names so far are put, each after a comma
abbrev pub invariant-put_cv_more-loop-name : goal.invariant-put_cv_more-loop-name
invariant-put_cv_more-loop-name l = l.out ≡ l.initial.out ++ flat_map (λ t. codes "," ++ t) (map cv_text (take l.name-index l.names))
