-- The steps from origin to origin.
use Rattle.std.proofs.Common.{◌≡◌, ℕ, Bool, false, find, is_none, slice_get, Option, Some, None, refl, sym, ap, ◌∙◌}
use Rattle.std.specs.Option.{option_map}
use Rattle.dwarf_entries.specs.Dies.{Die}
use Rattle.dwarf_entries.specs.Lookups.{has}
use Rattle.dwarf_entries.specs.Origins.{bearer_of, has_origin, with_origins}
use Rattle.dwarf_dies.specs.Handles.{DieIn, beside}

-- the first with the attribute, in so many steps
abbrev pub bearer_from : ℕ → ℕ → DieIn → Option DieIn
bearer_from code steps a = option_map (beside a) (find (λ o. has code o.entry) (with_origins steps a.info (Some a.die)))

-- whether an abstract_origin more is there after so many steps
abbrev pub more_from : ℕ → DieIn → Bool
more_from steps a = has_origin (slice_get (with_origins steps a.info (Some a.die)) steps)

-- no entry is given back where there is none
none_given : (a : DieIn) (o : Option Die) → is_none (option_map (beside a) o) ≡ is_none o
none_given a None = refl
none_given a (Some d) = refl

-- one is given back, so the attribute is found
pub found : (code : ℕ) (a : DieIn) (given : Option DieIn) → given ≡ option_map (beside a) (bearer_of code a.info a.die) → is_none given ≡ false → is_none (bearer_of code a.info a.die) ≡ false
found code a given h n = sym (none_given a (bearer_of code a.info a.die)) ∙ ap is_none (sym h) ∙ n
