-- Entries that are found or not.
use Rattle.std.proofs.Common.{◌≡◌, slice_get, map, List, [], ◌∷◌, Option, Some, None, refl}
use Rattle.std.specs.Iterator.{YieldsFirst}
use Rattle.std.specs.Option.{option_map}
use Rattle.dwarf_entries.specs.Dies.{Die}
use Rattle.dwarf_dies.specs.Handles.{DieIn, beside}

-- the first of a list
pub first_is : (a : DieIn) (l : List Die) (o : Option DieIn) (rest : List DieIn) → YieldsFirst (λ (s : List DieIn). s) (map (beside a) l) o rest → o ≡ option_map (beside a) (slice_get l 0)
first_is a [] None rest h = refl
first_is a [] (Some x) rest h = absurd (cc)
first_is a (d ∷ l) None rest h = absurd (cc)
first_is a (d ∷ l) (Some x) rest h = cc
