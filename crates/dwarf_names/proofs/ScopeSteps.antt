-- The scopes around an entry are found on the way up.
use Rattle.std.proofs.Common.{◌≡◌, ◌<◌, ℕ, ◌+◌, List, [], ◌∷◌, ◌++◌, length, map, filter, cond, Bool, true, false, Option, Some, None, refl, sym, ap, ◌∙◌, arith, append_assoc}
use Rattle.std.specs.Option.{option_map}
use Rattle.dwarf_entries.specs.Dies.{Die, ancestors, parent_of}
use Rattle.dwarf_dies.specs.Handles.{DieIn, beside}
use Rattle.dwarf_dies.proofs.Ancestors.{above_is, above_none, is_owner}
use Rattle.dwarf_names.specs.Scopes.{is_scope, scopes_around}

-- the scopes from an entry on upward
abbrev pub scopes_from : Option DieIn → List DieIn
scopes_from None = []
scopes_from (Some d) = map (beside d) (filter is_scope (d.die ∷ ancestors d.die))

-- how many steps there are from there up
abbrev pub steps_from : Option DieIn → ℕ
steps_from None = 0
steps_from (Some d) = length d.die.owners + 1

-- the entry that owns one
abbrev pub owner_of : DieIn → Option DieIn
owner_of d = option_map (beside d) (parent_of d.die)

from_owner : (d : DieIn) (p : Option Die) → parent_of d.die ≡ p → scopes_from (option_map (beside d) p) ≡ scopes_around d
from_owner d None h = sym (ap (λ (x : List Die). map (beside d) (filter is_scope x)) (above_none d.die h))
from_owner d (Some p) h = sym (ap (λ (x : List Die). map (beside d) (filter is_scope x)) (above_is d.die p h))

-- those around an entry are those from its owner on
pub from_first : (d : DieIn) → scopes_from (owner_of d) ≡ scopes_around d
from_first d = from_owner d (parent_of d.die) refl

abbrev with_first : DieIn → Bool → List Die
with_first d b = cond b (d.die ∷ filter is_scope (ancestors d.die)) (filter is_scope (ancestors d.die))

-- one that is a scope is added
pub one_added : (xs all : List DieIn) (up : DieIn) → is_scope up.die ≡ true → xs ++ scopes_from (Some up) ≡ all → (xs ++ up ∷ []) ++ scopes_from (owner_of up) ≡ all
one_added xs all up h kept =
    append_assoc xs (up ∷ []) (scopes_from (owner_of up)) ∙ ap (λ (x : List DieIn). xs ++ (up ∷ x)) (from_first up)
    ∙ sym (ap (λ b. xs ++ map (beside up) (with_first up b)) h) ∙ kept

-- and another is passed over
pub one_passed : (xs all : List DieIn) (up : DieIn) → is_scope up.die ≡ false → xs ++ scopes_from (Some up) ≡ all → xs ++ scopes_from (owner_of up) ≡ all
one_passed xs all up h kept =
    ap (λ (x : List DieIn). xs ++ x) (from_first up) ∙ sym (ap (λ b. xs ++ map (beside up) (with_first up b)) h) ∙ kept

fewer_by : (d : DieIn) (p : Option Die) → parent_of d.die ≡ p → steps_from (option_map (beside d) p) < steps_from (Some d)
fewer_by d None h = omega arith
fewer_by d (Some p) h = omega (arith, ap length (is_owner d.die p h).owners)

pub fewer : (d : DieIn) → steps_from (owner_of d) < steps_from (Some d)
fewer d = fewer_by d (parent_of d.die) refl
