-- What is found on the way up from an entry.
use Rattle.std.proofs.Common.{◌≡◌, ◌<◌, ◌||◌, ℕ, suc, List, [], ◌∷◌, length, slice_get, if◌then◌else◌, Bool, true, false, Option, Some, None, refl, sym, ap, ◌∙◌, arith}
use Rattle.std.specs.List.{list_any}
use Rattle.std.specs.Option.{option_map}
use Rattle.dwarf_entries.specs.Dies.{Die, ancestors_in, parent_of, what}
use Rattle.dwarf_entries.specs.PassedOver.{hides, is_function, is_hidden, is_in_function, is_in_type}
use Rattle.dwarf_entries.specs.Shapes.{Entry}
use Rattle.dwarf_entries.specs.Tags.{is_type, passes, tag_of}
use Rattle.dwarf_dies.specs.Handles.{DieIn, beside}
use Rattle.dwarf_dies.proofs.Ancestors.{above_is, above_none, is_owner}

-- one of these, or one around the last of them, is a function
abbrev pub function_from : Option DieIn → Bool
function_from None = false
function_from (Some u) = passes is_function (what u.die) || is_in_function u.die

-- the same of a type that is the nearest
abbrev pub type_from : Option DieIn → Bool
type_from None = false
type_from (Some u) = if passes is_function (what u.die) then false else if passes is_type (what u.die) then true else is_in_type u.die

-- and of one that hides what is below it
abbrev pub hidden_from : Option DieIn → Bool
hidden_from None = false
hidden_from (Some u) = hides u.info u.die || is_hidden u.info u.die

-- how many entries are still to come on the way up
abbrev pub left_from : Option DieIn → ℕ
left_from None = 0
left_from (Some u) = suc (length u.die.owners)

-- an entry without a parent has no owners
no_owners : (d : Die) → parent_of d ≡ None → d.owners ≡ []
no_owners d h = by_owners d.owners h
  where
    by_owners : (owners : List Entry) → slice_get (ancestors_in d owners) 0 ≡ None → owners ≡ []
    by_owners [] g = refl
    by_owners (e ∷ owners) g = absurd (cc)

abbrev function_in : List Entry → Bool
function_in owners = list_any (λ e. passes is_function (tag_of e.tag)) owners

-- a function is around an entry where its parent is one, or has one around it
pub function_above : (a : DieIn) → is_in_function a.die ≡ function_from (option_map (beside a) (parent_of a.die))
function_above a = by_parent (parent_of a.die) refl
  where
    by_parent : (p : Option Die) → parent_of a.die ≡ p → is_in_function a.die ≡ function_from (option_map (beside a) p)
    by_parent None h = ap function_in (no_owners a.die h)
    by_parent (Some d) h = ap function_in (is_owner a.die d h).owners

-- an entry with these owners
abbrev with_owners : Die → List Entry → Die
with_owners d owners = record { start = d.start; bases = d.bases; owners = owners; entry = d.entry }

pub type_above : (a : DieIn) → is_in_type a.die ≡ type_from (option_map (beside a) (parent_of a.die))
type_above a = by_parent (parent_of a.die) refl
  where
    by_parent : (p : Option Die) → parent_of a.die ≡ p → is_in_type a.die ≡ type_from (option_map (beside a) p)
    by_parent None h = ap (λ owners. is_in_type (with_owners a.die owners)) (no_owners a.die h)
    by_parent (Some d) h = ap (λ owners. is_in_type (with_owners a.die owners)) (is_owner a.die d h).owners

-- what is hidden has a parent that hides it, or is hidden
pub hidden_above : (a : DieIn) → is_hidden a.info a.die ≡ hidden_from (option_map (beside a) (parent_of a.die))
hidden_above a = by_parent (parent_of a.die) refl
  where
    by_parent : (p : Option Die) → parent_of a.die ≡ p → is_hidden a.info a.die ≡ hidden_from (option_map (beside a) p)
    by_parent None h = ap (list_any (hides a.info)) (above_none a.die h)
    by_parent (Some d) h = ap (list_any (hides a.info)) (above_is a.die d h)

-- one less is left after each step
pub fewer_left : (a : DieIn) → left_from (option_map (beside a) (parent_of a.die)) < left_from (Some a)
fewer_left a = by_parent (parent_of a.die) refl
  where
    by_parent : (p : Option Die) → parent_of a.die ≡ p → left_from (option_map (beside a) p) < left_from (Some a)
    by_parent None h = omega arith
    by_parent (Some d) h = let same = ap length (is_owner a.die d h).owners in omega (arith, same)

pub function_next : (a : DieIn) (o : Option DieIn) → passes is_function (what a.die) ≡ false → o ≡ option_map (beside a) (parent_of a.die) → function_from (Some a) ≡ function_from o
function_next a o h g = ap (λ b. b || is_in_function a.die) h ∙ function_above a ∙ ap function_from (sym g)

pub type_next : (a : DieIn) (o : Option DieIn) → passes is_function (what a.die) ≡ false → passes is_type (what a.die) ≡ false → o ≡ option_map (beside a) (parent_of a.die) → type_from (Some a) ≡ type_from o
type_next a o h k g =
    ap (λ b. if b then false else if passes is_type (what a.die) then true else is_in_type a.die) h ∙ ap (λ b. if b then true else is_in_type a.die) k
    ∙ type_above a ∙ ap type_from (sym g)

pub hidden_next : (a : DieIn) (o : Option DieIn) → hides a.info a.die ≡ false → o ≡ option_map (beside a) (parent_of a.die) → hidden_from (Some a) ≡ hidden_from o
hidden_next a o h g = ap (λ b. b || is_hidden a.info a.die) h ∙ hidden_above a ∙ ap hidden_from (sym g)

pub fewer_next : (a : DieIn) (p o : Option DieIn) → p ≡ Some a → o ≡ option_map (beside a) (parent_of a.die) → left_from o < left_from p
fewer_next a p o h g = let m = ap left_from h in let n = ap left_from g in let f = fewer_left a in omega (arith, m, n, f)
