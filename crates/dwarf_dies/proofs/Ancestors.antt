-- For callers: the entries that own one are its parent and those that own that.
use Rattle.std.proofs.Common.{◌≡◌, ℕ, List, [], ◌∷◌, slice_get, Option, Some, None, refl, sym, ap, subst, ◌∙◌}
use Rattle.dwarf_entries.specs.Dies.{Die, ancestors, ancestors_in, parent_of}
use Rattle.dwarf_entries.specs.Shapes.{Entry}
use Rattle.dwarf_entries.specs.declared.sections.Bases.{Bases}

-- a parent is an owner, with its own owners, and has the same unit
pub record IsOwner (d p : Die) : Type 0 where
  pub owners : d.owners ≡ p.entry ∷ p.owners
  pub start : p.start ≡ d.start
  pub bases : p.bases ≡ d.bases

owner_by : (d p : Die) (owners : List Entry) → d.owners ≡ owners → slice_get (ancestors_in d owners) 0 ≡ Some p → IsOwner d p
owner_by d p [] g h = absurd (cc)
owner_by d p (e ∷ owners) g h =
    let made : Die = record { start = d.start; bases = d.bases; owners = owners; entry = e } in
    let same : made ≡ p = cc in
    record {
      owners = g ∙ ap (λ (x : Die). x.entry ∷ x.owners) same;
      start = sym (ap (λ (x : Die). x.start) same);
      bases = sym (ap (λ (x : Die). x.bases) same);
    }

pub is_owner : (d p : Die) → parent_of d ≡ Some p → IsOwner d p
is_owner d p h = owner_by d p d.owners refl h

abbrev die_with : ℕ → Bases → List Entry → Entry → Die
die_with start bases owners entry = record { start = start; bases = bases; owners = owners; entry = entry }

same_ancestors : (d p : Die) → p.start ≡ d.start → p.bases ≡ d.bases → (l : List Entry) → ancestors_in d l ≡ ancestors_in p l
same_ancestors d p s b [] = refl
same_ancestors d p s b (e ∷ l) =
    ap (λ (x : ℕ). die_with x d.bases l e ∷ ancestors_in d l) (sym s) ∙ ap (λ (x : Bases). die_with p.start x l e ∷ ancestors_in d l) (sym b)
    ∙ ap (λ (x : List Die). die_with p.start p.bases l e ∷ x) (same_ancestors d p s b l)

-- so those above an entry are its parent, and those above that
pub above_is : (d p : Die) → parent_of d ≡ Some p → ancestors d ≡ p ∷ ancestors p
above_is d p h =
    let o = is_owner d p h in
    ap (ancestors_in d) o.owners ∙ same_ancestors d p o.start o.bases (p.entry ∷ p.owners)

-- and there are none above one without a parent
pub above_none : (d : Die) → parent_of d ≡ None → ancestors d ≡ []
above_none d h = by_owners d.owners h
  where
    by_owners : (owners : List Entry) → slice_get (ancestors_in d owners) 0 ≡ None → ancestors_in d owners ≡ []
    by_owners [] g = refl
    by_owners (e ∷ owners) g = absurd (cc)
