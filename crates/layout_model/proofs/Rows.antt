-- The numbers of the laws rise along their rows.
use Rattle.std.proofs.Common.{lit≤}
use Rattle.layout_set.specs.declared.set.Set.{Set}
use Rattle.layout_set.specs.Laws.{sound_laws, further_laws, laws}
use Rattle.layout_set.proofs.Firsts.{Rises}

pub sound_rises : (set : Set) → Rises 0 (sound_laws set)
unfolding sound_laws
sound_rises set = (lit≤ tt, (lit≤ tt, (lit≤ tt, (lit≤ tt, (lit≤ tt, (lit≤ tt, tt))))))

pub all_rises : (set : Set) → Rises 0 (laws set)
unfolding sound_laws further_laws
all_rises set = (lit≤ tt, (lit≤ tt, (lit≤ tt, (lit≤ tt, (lit≤ tt, (lit≤ tt, (lit≤ tt, (lit≤ tt, (lit≤ tt, (lit≤ tt, (lit≤ tt, (lit≤ tt, (lit≤ tt, (lit≤ tt, tt))))))))))))))
