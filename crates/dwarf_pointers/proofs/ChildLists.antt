-- The children of an entry with one tag.
use Rattle.std.proofs.Common.{◌≡◌, ℕ, List, [], ◌∷◌, map, filter, cond, if◌then◌else◌, Bool, true, false, Option, Some, None, refl, sym, ap, ◌∙◌}
use Rattle.dwarf_entries.specs.Codes.{at_count}
use Rattle.dwarf_entries.specs.Dies.{Die, children_of, what}
use Rattle.dwarf_entries.specs.Lookups.{number_of}
use Rattle.dwarf_entries.specs.Structures.{children_with, is_member, members_of, has_part}
use Rattle.dwarf_entries.specs.Tags.{passes}
use Rattle.dwarf_entries.specs.Types.{count_of, is_subrange, one_count}
use Rattle.dwarf_entries.specs.declared.tag.Tag.{Tag}
use Rattle.dwarf_dies.specs.Handles.{DieIn, beside}

-- those of some entries that have such a tag
abbrev pub those : (Tag → Bool) → List DieIn → List DieIn
those test l = filter (λ c. passes test (what c.die)) l

more_below : (test : Tag → Bool) (a : DieIn) (d : Die) (l : List Die) → those test (map (beside a) l) ≡ map (beside a) (filter (λ c. passes test (what c)) l) → (b : Bool)
    → cond b (beside a d ∷ those test (map (beside a) l)) (those test (map (beside a) l)) ≡ map (beside a) (cond b (d ∷ filter (λ c. passes test (what c)) l) (filter (λ c. passes test (what c)) l))
more_below test a d l h true = ap (λ (x : List DieIn). beside a d ∷ x) h
more_below test a d l h false = h

all_below : (test : Tag → Bool) (a : DieIn) (l : List Die) → those test (map (beside a) l) ≡ map (beside a) (filter (λ c. passes test (what c)) l)
all_below test a [] = refl
all_below test a (d ∷ l) = more_below test a d l (all_below test a l) (passes test (what d))

pub below_are : (test : Tag → Bool) (a : DieIn) → those test (map (beside a) (children_of a.info a.die)) ≡ map (beside a) (children_with test a.info a.die)
below_are test a = all_below test a (children_of a.info a.die)

-- an entry with such a tag comes first, and any other is left out
pub with_first : (test : Tag → Bool) (c : DieIn) (l : List DieIn) → passes test (what c.die) ≡ true → those test (c ∷ l) ≡ c ∷ those test l
with_first test c l h = ap (λ b. cond b (c ∷ those test l) (those test l)) h

pub without_first : (test : Tag → Bool) (c : DieIn) (l : List DieIn) → passes test (what c.die) ≡ false → those test (c ∷ l) ≡ those test l
without_first test c l h = ap (λ b. cond b (c ∷ those test l) (those test l)) h

pub members_are : (a : DieIn) → has_part a.info a.die ≡ false → those is_member (map (beside a) (children_of a.info a.die)) ≡ map (beside a) (members_of a.info a.die)
members_are a h = below_are is_member a ∙ sym (ap (λ b. map (beside a) (if b then [] else children_with is_member a.info a.die)) h)

-- the count of the one subrange: of those that follow, or one that was seen
abbrev pub count_in : Bool → Option ℕ → List DieIn → Option ℕ
count_in seen count [] = count
count_in true count (r ∷ l) = None
count_in false count (r ∷ []) = number_of at_count r.die.entry
count_in false count (r ∷ s ∷ l) = None

abbrev pub count_from : Bool → Option ℕ → List DieIn → Option ℕ
count_from seen count l = count_in seen count (those is_subrange l)

none_seen : (a : DieIn) (l : List Die) → count_in false None (map (beside a) l) ≡ one_count l
none_seen a [] = refl
none_seen a (r ∷ []) = refl
none_seen a (r ∷ s ∷ l) = refl

pub count_is : (a : DieIn) → count_from false None (map (beside a) (children_of a.info a.die)) ≡ count_of a.info a.die
count_is a = ap (count_in false None) (below_are is_subrange a) ∙ none_seen a (children_with is_subrange a.info a.die)

one_seen : (count : Option ℕ) (r : DieIn) (l : List DieIn) → count_in false count (r ∷ l) ≡ count_in true (number_of at_count r.die.entry) l
one_seen count r [] = refl
one_seen count r (s ∷ l) = refl

pub first_seen : (count : Option ℕ) (c : DieIn) (l : List DieIn) → passes is_subrange (what c.die) ≡ true → count_from false count (c ∷ l) ≡ count_from true (number_of at_count c.die.entry) l
first_seen count c l h = ap (count_in false count) (with_first is_subrange c l h) ∙ one_seen count c (those is_subrange l)

pub more_seen : (count : Option ℕ) (c : DieIn) (l : List DieIn) → passes is_subrange (what c.die) ≡ true → count_from true count (c ∷ l) ≡ None
more_seen count c l h = ap (count_in true count) (with_first is_subrange c l h)

pub not_seen : (seen : Bool) (count : Option ℕ) (c : DieIn) (l : List DieIn) → passes is_subrange (what c.die) ≡ false → count_from seen count (c ∷ l) ≡ count_from seen count l
not_seen seen count c l h = ap (count_in seen count) (without_first is_subrange c l h)
