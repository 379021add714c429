-- The part that CodeView carries of a lawful set is a lawful set.
use Rattle.std.proofs.Common.{◌≡◌, sym, subst, lit≤, Ok}
use Rattle.layout_set.specs.declared.set.Set.{Set}
use Rattle.layout_set.specs.Found.{InOrder}
use Rattle.layout_set.specs.FirstBreach.{Holds}
use Rattle.layout_set.specs.IsSet.{IsSet}
use Rattle.layout_set.specs.Law3.{Law3}
use Rattle.layout_set.specs.Laws.{IsLawful, laws, sound_laws, further_laws}
use Rattle.layout_set.proofs.Firsts.{Rises, checks_say}
use Rattle.layout_set.proofs.SizeSteps.{pointer_size}
use Rattle.layout_carried.specs.Carried.{carried}
use Rattle.layout_carried.proofs.KeptCounts.{law_14}
use Rattle.layout_carried.proofs.KeptNames.{law_10, named}
use Rattle.layout_carried.proofs.KeptNumbers.{law_5, law_8}
use Rattle.layout_carried.proofs.KeptParts.{law_3, law_4, law_7, law_9}
use Rattle.layout_carried.proofs.KeptPlaces.{law_12, law_13}
use Rattle.layout_carried.proofs.KeptReferences.{law_1, law_2, law_6, law_11}

-- the numbers of the laws rise
rises : (set : Set) → Rises 0 (laws set)
unfolding sound_laws further_laws
rises set = (
  lit≤ tt,
  (
    lit≤ tt,
    (
      lit≤ tt,
      (
        lit≤ tt,
        (
          lit≤ tt,
          (
            lit≤ tt,
            (
              lit≤ tt,
              (lit≤ tt, (lit≤ tt, (lit≤ tt, (lit≤ tt, (lit≤ tt, (lit≤ tt, (lit≤ tt, tt))))))),
            ),
          ),
        ),
      ),
    ),
  ),
)

third : (set : Set) → IsLawful set → Holds set (Law3 set)
unfolding sound_laws further_laws
third set h = h 3

each_holds : (set : Set) → IsLawful set → InOrder (carried set) (laws (carried set)) (Ok tt)
unfolding sound_laws further_laws
each_holds set h =
    let eight = pointer_size set (third set h) in (
      law_1 set (h 1),
      (
        law_2 set (h 2),
        (
          law_3 set eight (h 3),
          (
            law_4 set eight (h 4),
            (
              law_5 set eight (h 5),
              (
                law_6 set (h 6),
                (
                  law_7 set eight (h 7),
                  (
                    law_8 set eight (h 8),
                    (
                      law_9 set eight (h 9),
                      (
                        law_10 set eight (h 10),
                        (
                          law_11 set (h 11),
                          (
                            law_12 set (h 12),
                            (
                              law_13 set eight (h 13),
                              (law_14 set (h 14), tt),
                            ),
                          ),
                        ),
                      ),
                    ),
                  ),
                ),
              ),
            ),
          ),
        ),
      ),
    )

carried_laws : (set : Set) → IsLawful set → IsLawful (carried set)
carried_laws set h = checks_say (carried set) (laws (carried set)) (Ok tt) (rises (carried set)) (each_holds set h)

pub keeps_laws : (set part : Set) → IsLawful set → part ≡ carried set → IsLawful part
keeps_laws set part lawful e = subst IsLawful (sym e) (carried_laws set lawful)

pub keeps_names : (set part : Set) → IsSet set → part ≡ carried set → IsSet part
keeps_names set part h e = subst IsSet (sym e) (named set h)
