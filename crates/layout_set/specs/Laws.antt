-- The laws in their order, and what they make of a set.
use Rattle.std.specs.Prelude.{List, [], ◌∷◌, ◌++◌}
use Rattle.layout_set.specs.declared.set.Set.{Set}
use Rattle.layout_set.specs.FirstBreach.{Numbered, AllHold}
use Rattle.layout_set.specs.Law1.{Law1}
use Rattle.layout_set.specs.Law2.{Law2}
use Rattle.layout_set.specs.Law3.{Law3}
use Rattle.layout_set.specs.Law4.{Law4}
use Rattle.layout_set.specs.Law5.{Law5}
use Rattle.layout_set.specs.Law6.{Law6}
use Rattle.layout_set.specs.Law7.{Law7}
use Rattle.layout_set.specs.Law8.{Law8}
use Rattle.layout_set.specs.Law9.{Law9}
use Rattle.layout_set.specs.Law10.{Law10}
use Rattle.layout_set.specs.Law11.{Law11}
use Rattle.layout_set.specs.Law12.{Law12}
use Rattle.layout_set.specs.Law13.{Law13}
use Rattle.layout_set.specs.Law14.{Law14}

-- what a set needs to be read: laws 1 to 6
unfoldable pub sound_laws : Set → List Numbered
sound_laws set =
    record { number = 1; law = Law1 set }
    ∷ record { number = 2; law = Law2 set }
    ∷ record { number = 3; law = Law3 set }
    ∷ record { number = 4; law = Law4 set }
    ∷ record { number = 5; law = Law5 set }
    ∷ record { number = 6; law = Law6 set }
    ∷ []

-- what a set needs beside that to be written and printed: laws 7 to 14
unfoldable pub further_laws : Set → List Numbered
further_laws set =
    record { number = 7; law = Law7 set }
    ∷ record { number = 8; law = Law8 set }
    ∷ record { number = 9; law = Law9 set }
    ∷ record { number = 10; law = Law10 set }
    ∷ record { number = 11; law = Law11 set }
    ∷ record { number = 12; law = Law12 set }
    ∷ record { number = 13; law = Law13 set }
    ∷ record { number = 14; law = Law14 set }
    ∷ []

-- all laws, in their order
abbrev pub laws : Set → List Numbered
laws set = sound_laws set ++ further_laws set

-- the set is lawful
abbrev pub IsLawful : Set → Type 0
IsLawful set = AllHold set (laws set)

-- the set is sound
abbrev pub IsSound : Set → Type 0
IsSound set = AllHold set (sound_laws set)
