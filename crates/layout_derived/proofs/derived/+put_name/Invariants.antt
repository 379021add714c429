use Rattle.layout_derived.proofs.Walk.{rank}
use Rattle.layout_derived.proofs.derived.+put_name.Given as goal

-- what a name is made over has a lower rank
abbrev pub decreases-put_name : goal.decreases-put_name
decreases-put_name l = rank l.types.now l.ty
