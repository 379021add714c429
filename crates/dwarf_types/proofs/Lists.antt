-- Lists that are made of entries, one after the other.
use Rattle.std.proofs.Common.{◌≡◌, List, [], ◌∷◌, ◌++◌, map, Bool, true, false, All, refl, sym, ap, subst, ◌∙◌, append-nil}
use Rattle.std.proofs.lemmas.List.Elements.{All-nil, All-cons, All-head, All-tail, All-same}
use Rattle.dwarf_entries.specs.Dies.{Die, Info, children_of, what}
use Rattle.dwarf_entries.specs.Structures.{children_with}
use Rattle.dwarf_entries.specs.Tags.{passes}
use Rattle.dwarf_entries.specs.declared.tag.Tag.{Tag}
use Rattle.dwarf_dies.specs.Handles.{DieIn, beside}
use Rattle.dwarf_pointers.proofs.ChildLists.{below_are, those, with_first, without_first}

-- an entry of these, of which this holds
pub record IsOne (info : Info) (P : Die → Type 0) (c : DieIn) : Type 0 where
  pub here : c.info ≡ info
  pub is : P c.die

-- what is made of entries
abbrev pub made : {A : Type 0} → (Die → A) → List DieIn → List A
made f l = map (λ (c : DieIn). f c.die) l

-- what was made so far, and what is to be made of the entries that are left, is the whole; and of each that is left this holds
pub record AreLeft {A : Type 0} (info : Info) (P : Die → Type 0) (f : Die → A) (so_far : List A) (left : List DieIn) (whole : List A) : Type 0 where
  pub all : so_far ++ made f left ≡ whole
  pub each : All (IsOne info P) left

made_all : {A : Type 0} (f : Die → A) (a : DieIn) (l : List Die) → made f (map (beside a) l) ≡ map f l
made_all f a [] = refl
made_all {A} f a (d ∷ l) = ap (λ (m : List A). f d ∷ m) (made_all f a l)

each_one : (info : Info) (P : Die → Type 0) (a : DieIn) → a.info ≡ info → (l : List Die) → All P l → All (IsOne info P) (map (beside a) l)
each_one info P a here [] all = All-nil (IsOne info P)
each_one info P a here (d ∷ l) all =
    All-cons (IsOne info P) (beside a d) (map (beside a) l) (record { here = here; is = All-head P d l all }) (each_one info P a here l (All-tail P d l all))

-- before the first entry
pub at_first : {A : Type 0} (info : Info) (P : Die → Type 0) (f : Die → A) (a : DieIn) → a.info ≡ info → (l : List Die) → All P l → (left : List DieIn) → left ≡ map (beside a) l
    → (so_far : List A) → so_far ≡ [] → AreLeft info P f so_far left (map f l)
at_first {A} info P f a here l all left is so_far none = record {
  all = ap (λ (m : List A). m ++ made f left) none ∙ ap (made f) is ∙ made_all f a l;
  each = All-same (IsOne info P) left (map (beside a) l) is (each_one info P a here l all);
}

joined : {A : Type 0} (xs : List A) (y : A) (ys : List A) → (xs ++ y ∷ []) ++ ys ≡ xs ++ y ∷ ys
joined [] y ys = refl
joined {A} (x ∷ xs) y ys = ap (λ (l : List A). x ∷ l) (joined xs y ys)

-- the next one can be made
pub next_one : {A : Type 0} (info : Info) (P : Die → Type 0) (f : Die → A) (so_far : List A) (c : DieIn) (left : List DieIn) (whole : List A)
    → AreLeft info P f so_far (c ∷ left) whole → IsOne info P c
next_one info P f so_far c left whole h = All-head (IsOne info P) c left h.each

-- and is added
pub one_more : {A : Type 0} (info : Info) (P : Die → Type 0) (f : Die → A) (so_far : List A) (c : DieIn) (left : List DieIn) (whole : List A)
    → AreLeft info P f so_far (c ∷ left) whole → (x : A) → x ≡ f c.die → (more : List A) → more ≡ so_far ++ x ∷ [] → AreLeft info P f more left whole
one_more {A} info P f so_far c left whole h x is more added = record {
  all = ap (λ (m : List A). m ++ made f left) added ∙ joined so_far x (made f left) ∙ ap (λ (y : A). so_far ++ y ∷ made f left) is ∙ h.all;
  each = All-tail (IsOne info P) c left h.each;
}

-- after the last entry
pub all_made : {A : Type 0} (info : Info) (P : Die → Type 0) (f : Die → A) (so_far : List A) (left : List DieIn) (whole : List A)
    → AreLeft info P f so_far left whole → left ≡ [] → so_far ≡ whole
all_made {A} info P f so_far left whole h none = sym (append-nil so_far) ∙ ap (λ (l : List DieIn). so_far ++ made f l) (sym none) ∙ h.all

-- the same of the entries of a list that have such a tag
abbrev pub AreLeftOf : {A : Type 0} → (Tag → Bool) → Info → (Die → Type 0) → (Die → A) → List A → List DieIn → List A → Type 0
AreLeftOf test info P f so_far left whole = AreLeft info P f so_far (those test left) whole

abbrev with_left : {A : Type 0} → Info → (Die → Type 0) → (Die → A) → List A → List A → List DieIn → Type 0
with_left info P f so_far whole left = AreLeft info P f so_far left whole

pub is_next : {A : Type 0} (test : Tag → Bool) (info : Info) (P : Die → Type 0) (f : Die → A) (so_far : List A) (c : DieIn) (left : List DieIn) (whole : List A)
    → AreLeftOf test info P f so_far (c ∷ left) whole → passes test (what c.die) ≡ true → AreLeft info P f so_far (c ∷ those test left) whole
is_next test info P f so_far c left whole h is = subst (with_left info P f so_far whole) (with_first test c left is) h

pub is_other : {A : Type 0} (test : Tag → Bool) (info : Info) (P : Die → Type 0) (f : Die → A) (so_far : List A) (c : DieIn) (left : List DieIn) (whole : List A)
    → AreLeftOf test info P f so_far (c ∷ left) whole → passes test (what c.die) ≡ false → AreLeftOf test info P f so_far left whole
is_other test info P f so_far c left whole h other = subst (with_left info P f so_far whole) (without_first test c left other) h

-- before the first child with such a tag
pub children_first : {A : Type 0} (test : Tag → Bool) (info : Info) (P : Die → Type 0) (f : Die → A) (a : DieIn) → a.info ≡ info → All P (children_with test info a.die)
    → (left : List DieIn) → left ≡ map (beside a) (children_of a.info a.die) → (so_far : List A) → so_far ≡ []
    → AreLeftOf test info P f so_far left (map f (children_with test info a.die))
children_first test info P f a here all left is so_far none =
    at_first info P f a here (children_with test info a.die) all (those test left)
    (ap (those test) is ∙ below_are test a ∙ ap (λ (i : Info). map (beside a) (children_with test i a.die)) here) so_far none
