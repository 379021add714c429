-- A part below an entry.
use Rattle.std.proofs.Common.{◌≡◌, ◌||◌, map, Bool, List, [], ◌∷◌, refl, ap}
use Rattle.std.specs.List.{list_any}
use Rattle.dwarf_entries.specs.Dies.{Die, children_of, what}
use Rattle.dwarf_entries.specs.Structures.{has_part, is_part}
use Rattle.dwarf_entries.specs.Tags.{passes}
use Rattle.dwarf_dies.specs.Handles.{DieIn, beside}

-- one of these is a variant part
abbrev pub part_among : List DieIn → Bool
part_among l = list_any (λ c. passes is_part (what c.die)) l

pub part_below : (a : DieIn) → has_part a.info a.die ≡ part_among (map (beside a) (children_of a.info a.die))
part_below a = by_list (children_of a.info a.die)
  where
    by_list : (l : List Die) → list_any (λ c. passes is_part (what c)) l ≡ part_among (map (beside a) l)
    by_list [] = refl
    by_list (d ∷ l) = ap (λ b. passes is_part (what d) || b) (by_list l)
