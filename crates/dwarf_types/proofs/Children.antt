-- The children of an entry: its parent is the entry whose child it is.
use Rattle.std.proofs.Common.{◌≡◌, ℕ, ◌==◌, List, [], ◌∷◌, filter, find, cond, slice_get, nat_eq, Bool, true, false, All, Option, Some, None, option_and_then, zero, suc, refl, sym, ap, subst, ◌∙◌}
use Rattle.std.specs.Option.{option_eq}
use Rattle.std.proofs.lemmas.Bool.{eqb-true}
use Rattle.std.proofs.lemmas.List.Elements.{All-nil, All-cons, All-head, All-tail}
use Rattle.dwarf_entries.specs.Dies.{Die, Info, children_of, die_at, is_owned_by, linked, parent_of, target_of, what}
use Rattle.dwarf_entries.specs.Lookups.{value_of}
use Rattle.dwarf_entries.specs.Structures.{children_with}
use Rattle.dwarf_entries.specs.Tags.{passes}
use Rattle.dwarf_entries.specs.declared.tag.Tag.{Tag}
use Rattle.dwarf_dies.specs.Laws.{AreLinked}
use Rattle.dwarf_dies.specs.Views.{die_of}
use Rattle.dwarf_dies.proofs.OwnedBy.{owned_is}
use Rattle.dwarf_laws.specs.Unbroken.{IsOf}

-- a child of an entry with such a tag
pub record IsChild (info : Info) (test : Tag → Bool) (d c : Die) : Type 0 where
  pub is_of : IsOf info c
  pub parent : parent_of c ≡ Some d
  pub tag : passes test (what c) ≡ true

-- an entry is owned by its parent
pub parent_is : (info : Info) → AreLinked info → (d c : Die) → IsOf info d → IsOf info c → is_owned_by d.entry.offset c.owners ≡ true → parent_of c ≡ Some d
parent_is info laws d c o p own = laws.parents p.0 c p.1 ∙ by_up c.entry.up (sym (owned_is info laws o.0 d o.1 p.0 c p.1) ∙ own)
  where
    by_up : (u : Option ℕ) → option_eq nat_eq u (Some o.0) ≡ true → option_and_then (die_of info) u ≡ Some d
    by_up None q = absurd (cc)
    by_up (Some k) q = ap (die_of info) (eqb-true k o.0 q) ∙ o.1

-- what holds of each place of a list holds of all
all_of : (P : Die → Type 0) (l : List Die) → ((k : ℕ) (c : Die) → slice_get l k ≡ Some c → P c) → All P l
all_of P [] h = All-nil P
all_of P (d ∷ l) h = All-cons P d l (h 0 d refl) (all_of P l (λ k c g. h (suc k) c g))

-- and of those that pass a test more may hold
pub all_passing : (P Q : Die → Type 0) (test : Die → Bool) (l : List Die) → All P l → ((c : Die) → P c → test c ≡ true → Q c) → All Q (filter test l)
all_passing P Q test [] all h = All-nil Q
all_passing P Q test (d ∷ l) all h = by_test (all_passing P Q test l (All-tail P d l all) h) (test d) refl
  where
    by_test : All Q (filter test l) → (b : Bool) → test d ≡ b → All Q (cond b (d ∷ filter test l) (filter test l))
    by_test rest true e = All-cons Q d (filter test l) (h d (All-head P d l all) e) rest
    by_test rest false e = rest

-- what holds of all holds of each
pub at_place : (P : Die → Type 0) (l : List Die) → All P l → (k : ℕ) (c : Die) → slice_get l k ≡ Some c → P c
at_place P [] all k c g = absurd (cc)
at_place P (d ∷ l) all zero c g = let same : d ≡ c = cc in subst P same (All-head P d l all)
at_place P (d ∷ l) all (suc k) c g = at_place P l (All-tail P d l all) k c g

record IsOwned (info : Info) (d c : Die) : Type 0 where
  is_of : IsOf info c
  parent : parent_of c ≡ Some d

pub all_children : (info : Info) → AreLinked info → (test : Tag → Bool) (d : Die) → IsOf info d → All (IsChild info test d) (children_with test info d)
all_children info laws test d o =
    all_passing (IsOwned info d) (IsChild info test d) (λ c. passes test (what c)) (children_of info d) owned (λ c p e. record { is_of = p.is_of; parent = p.parent; tag = e })
  where
    owned : All (IsOwned info d) (children_of info d)
    owned =
        all_passing (IsOf info) (IsOwned info d) (λ c. is_owned_by d.entry.offset c.owners) info.dies (all_of (IsOf info) info.dies (λ k c g. (k, g)))
        (λ c p e. record { is_of = p; parent = parent_is info laws d c o p e })

-- what holds of each child holds of all
pub each_child : (info : Info) → AreLinked info → (test : Tag → Bool) (d : Die) → IsOf info d → (P : Die → Type 0) → ((c : Die) → IsChild info test d c → P c) → All P (children_with test info d)
each_child info laws test d o P h = map_all (children_with test info d) (all_children info laws test d o)
  where
    map_all : (l : List Die) → All (IsChild info test d) l → All P l
    map_all [] all = All-nil P
    map_all (c ∷ l) all = All-cons P c l (h c (All-head (IsChild info test d) c l all)) (map_all l (All-tail (IsChild info test d) c l all))

-- the first child with the tag is one
pub first_child : (info : Info) → AreLinked info → (test : Tag → Bool) (d : Die) → IsOf info d → (c : Die) → slice_get (children_with test info d) 0 ≡ Some c → IsChild info test d c
first_child info laws test d o c g = at_place (IsChild info test d) (children_with test info d) (all_children info laws test d o) 0 c g

found_in : (info : Info) (test : Die → Bool) (l : List Die) → ((k : ℕ) (c : Die) → slice_get l k ≡ Some c → IsOf info c) → (e : Die) → find test l ≡ Some e → IsOf info e
found_in info test [] all e h = absurd (cc)
found_in info test (d ∷ l) all e h = by_test (test d) (found_in info test l (λ k c g. all (suc k) c g) e) h
  where
    by_test : (b : Bool) → (find test l ≡ Some e → IsOf info e) → cond b (Some d) (find test l) ≡ Some e → IsOf info e
    by_test true rest g = let same : d ≡ e = cc in subst (IsOf info) same (all 0 d refl)
    by_test false rest g = rest g

-- a link leads to one of the entries
pub linked_one : (info : Info) (code : ℕ) (d e : Die) → linked info code d ≡ Some e → IsOf info e
linked_one info code d e h = by_target (option_and_then (target_of d.start) (value_of code d.entry)) h
  where
    by_target : (o : Option ℕ) → option_and_then (die_at info) o ≡ Some e → IsOf info e
    by_target None g = absurd (cc)
    by_target (Some offset) g = found_in info (λ x. x.entry.offset == offset) info.dies (λ k c q. (k, q)) e g
