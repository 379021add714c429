-- When types have sizes.
use Rattle.layout_set.specs.declared.set.Set.{Set}
use Rattle.layout_set.specs.FirstBreach.{Holds}
use Rattle.layout_set.specs.Law1.{Law1}
use Rattle.layout_set.specs.Law2.{Law2}
use Rattle.layout_set.specs.Law3.{Law3}

-- laws 1 to 3 hold
pub record HasSizes (set : Set) : Type 0 where
  pub within : Holds set (Law1 set)
  pub shallow : Holds set (Law2 set)
  pub small : Holds set (Law3 set)
