-- Children of one kind, and how many of them there are.
use Rattle.std.proofs.Common.{◌≡◌, ◌||◌, ℕ, map, filter, filter_map, cond, not, count_by, Bool, true, false, List, [], ◌∷◌, Option, Some, None, refl, ap, ◌∙◌}
use Rattle.std.specs.List.{list_any}
use Rattle.layout_set.specs.Numbers.{last_of}
use Rattle.layout_set.specs.declared.primitive.Primitive.{Primitive}
use Rattle.dwarf_entries.specs.Dies.{Die, children_of, what}
use Rattle.dwarf_entries.specs.Enums.{is_listed, listed_numbers, number_in, variants_in}
use Rattle.dwarf_entries.specs.Structures.{children_with}
use Rattle.dwarf_entries.specs.Tags.{passes}
use Rattle.dwarf_entries.specs.declared.tag.Tag.{Tag}
use Rattle.dwarf_dies.specs.Handles.{DieIn, beside}
use Rattle.dwarf_variants.specs.Counts.{is_any_listed}
use Rattle.dwarf_variants.specs.Ends.{Ends, ends_of, with_next}
use Rattle.dwarf_variants.specs.Kinds.{of_kind, test_of}
use Rattle.dwarf_variants.specs.declared.kinds.Kind.{Kind}

kept : (b : Bool) (a : DieIn) (d : Die) (l : List Die) → cond b (beside a d ∷ map (beside a) l) (map (beside a) l) ≡ map (beside a) (cond b (d ∷ l) l)
kept true a d l = refl
kept false a d l = refl

kind_among : (kind : Kind) (a : DieIn) (l : List Die) → of_kind kind (map (beside a) l) ≡ map (beside a) (filter (λ c. passes (test_of kind) (what c)) l)
kind_among kind a [] = refl
kind_among kind a (d ∷ l) =
    ap (λ (m : List DieIn). cond (passes (test_of kind) (what d)) (beside a d ∷ m) m) (kind_among kind a l)
    ∙ kept (passes (test_of kind) (what d)) a d (filter (λ c. passes (test_of kind) (what c)) l)

-- the children of a kind, each with what is around it
pub kind_below : (kind : Kind) (a : DieIn) → of_kind kind (map (beside a) (children_of a.info a.die)) ≡ map (beside a) (children_with (test_of kind) a.info a.die)
kind_below kind a = kind_among kind a (children_of a.info a.die)

-- one of these lists a number
abbrev pub listed_among : List DieIn → Bool
listed_among l = list_any (λ v. is_listed v.die) l

pub listed_below : (a : DieIn) → is_any_listed a.info a.die ≡ listed_among (map (beside a) (variants_in a.info a.die))
listed_below a = by_list (variants_in a.info a.die)
  where
    by_list : (l : List Die) → list_any is_listed l ≡ listed_among (map (beside a) l)
    by_list [] = refl
    by_list (d ∷ l) = ap (λ b. is_listed d || b) (by_list l)

-- how many of these list none
abbrev pub unlisted_among : List DieIn → ℕ
unlisted_among l = count_by (λ v. not (is_listed v.die)) l

-- the numbers that these list
abbrev pub numbers_among : Primitive → List DieIn → List ℕ
numbers_among prim l = filter_map (λ v. number_in prim v.die) l

-- a number before others, where there is one
abbrev with_one : Option ℕ → List ℕ → List ℕ
with_one None l = l
with_one (Some n) l = n ∷ l

pub numbers_below : (prim : Primitive) (a : DieIn) → listed_numbers a.info prim a.die ≡ numbers_among prim (map (beside a) (variants_in a.info a.die))
numbers_below prim a = by_list (variants_in a.info a.die)
  where
    by_list : (l : List Die) → filter_map (number_in prim) l ≡ numbers_among prim (map (beside a) l)
    by_list [] = refl
    by_list (d ∷ l) = ap (with_one (number_in prim d)) (by_list l)

-- the ends of a list, which begins after some numbers with these ends
abbrev pub ends_after : Option Ends → List ℕ → Option Ends
ends_after ends [] = ends
ends_after ends (n ∷ l) = ends_after (with_next ends n) l

pub ends_from_none : (l : List ℕ) → ends_after None l ≡ ends_of l
ends_from_none [] = refl
ends_from_none (n ∷ l) = from_some n n l
  where
    from_some : (first last : ℕ) (l : List ℕ) → ends_after (Some (record { first = first; last = last })) l ≡ Some (record { first = first; last = last_of last l })
    from_some first last [] = refl
    from_some first last (m ∷ l) = from_some first m l
