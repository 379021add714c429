-- What is found on the way up from an entry: the nearest of some tags, and the first entry of the unit.
use Rattle.std.proofs.Common.{◌≡◌, List, ◌∷◌, find, if◌then◌else◌, Bool, true, false, Option, Some, None, refl, sym, ap, ◌∙◌}
use Rattle.std.specs.Option.{option_map}
use Rattle.dwarf_entries.specs.Dies.{Die, ancestors, parent_of, what}
use Rattle.dwarf_entries.specs.Tags.{passes}
use Rattle.dwarf_entries.specs.declared.tag.Tag.{Tag}
use Rattle.dwarf_dies.specs.Handles.{DieIn, beside}
use Rattle.dwarf_dies.proofs.Ancestors.{above_is, above_none}
use Rattle.dwarf_zones.specs.Units.{last_or, root_of}

-- the nearest of those above with such a tag
abbrev pub nearest : (Tag → Bool) → Die → Option Die
nearest test d = find (λ o. passes test (what o)) (ancestors d)

-- one of these, or the nearest above it
abbrev pub nearest_from : (Tag → Bool) → Option DieIn → Option DieIn
nearest_from test None = None
nearest_from test (Some u) = if passes test (what u.die) then Some u else option_map (beside u) (nearest test u.die)

abbrev found_in : (Tag → Bool) → DieIn → List Die → Option DieIn
found_in test a l = option_map (beside a) (find (λ o. passes test (what o)) l)

first_or : (test : Tag → Bool) (a : DieIn) (d : Die) (b : Bool) → passes test (what d) ≡ b → found_in test a (d ∷ ancestors d) ≡ nearest_from test (Some (beside a d))
first_or test a d true h = rw (h) refl
first_or test a d false h = rw (h) refl

pub nearest_above : (test : Tag → Bool) (a : DieIn) → option_map (beside a) (nearest test a.die) ≡ nearest_from test (option_map (beside a) (parent_of a.die))
nearest_above test a = by_parent (parent_of a.die) refl
  where
    by_parent : (p : Option Die) → parent_of a.die ≡ p → option_map (beside a) (nearest test a.die) ≡ nearest_from test (option_map (beside a) p)
    by_parent None h = ap (found_in test a) (above_none a.die h)
    by_parent (Some d) h = ap (found_in test a) (above_is a.die d h) ∙ first_or test a d (passes test (what d)) refl

pub nearest_next : (test : Tag → Bool) (a : DieIn) (o : Option DieIn) → passes test (what a.die) ≡ false → o ≡ option_map (beside a) (parent_of a.die)
    → nearest_from test (Some a) ≡ nearest_from test o
nearest_next test a o h g =
    ap (λ b. if b then Some a else option_map (beside a) (nearest test a.die)) h ∙ nearest_above test a ∙ ap (nearest_from test) (sym g)

pub nearest_here : (test : Tag → Bool) (a : DieIn) → passes test (what a.die) ≡ true → nearest_from test (Some a) ≡ Some a
nearest_here test a h = ap (λ b. if b then Some a else option_map (beside a) (nearest test a.die)) h

-- the first entry of the unit, by the entry that was reached, and the one above it
abbrev pub root_by : DieIn → Option DieIn → DieIn
root_by reached None = reached
root_by reached (Some u) = beside u (root_of u.die)

abbrev last_in : DieIn → List Die → DieIn
last_in a l = beside a (last_or a.die l)

pub root_above : (a : DieIn) → beside a (root_of a.die) ≡ root_by a (option_map (beside a) (parent_of a.die))
root_above a = by_parent (parent_of a.die) refl
  where
    by_parent : (p : Option Die) → parent_of a.die ≡ p → beside a (root_of a.die) ≡ root_by a (option_map (beside a) p)
    by_parent None h = ap (last_in a) (above_none a.die h)
    by_parent (Some d) h = ap (last_in a) (above_is a.die d h)
