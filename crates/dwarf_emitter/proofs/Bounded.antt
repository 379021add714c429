-- A lawful set is not too large for a layout file.
use Rattle.layout_set.specs.Law14.{IsBounded}
use Rattle.layout_set.specs.Laws.{IsLawful, further_laws, sound_laws}
use Rattle.layout_set.specs.declared.breach.Item.TheVariants.{Whole}
use Rattle.layout_set.specs.declared.set.Set.{Set}

pub bounded : (set : Set) → IsLawful set → IsBounded set
unfolding sound_laws further_laws
bounded set h = (h 14 Whole tt).counts
