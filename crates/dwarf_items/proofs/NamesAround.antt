-- The names around an entry.
use Rattle.std.proofs.Common.{◌≡◌, ◌<◌, List, [], ◌∷◌, ◌++◌, reverse, filter, flat_map, length, Bool, true, false, cond, if◌then◌else◌, Option, Some, None, refl, sym, ap, ◌∙◌, arith, append-nil}
use Rattle.std.proofs.lemmas.Grind.{flat_map-append, reverse_onto}
use Rattle.std.specs.Option.{option_map}
use Rattle.dwarf_entries.specs.AttributeItems.{around_items}
use Rattle.dwarf_entries.specs.Codes.{at_name}
use Rattle.dwarf_entries.specs.Dies.{Die, Info, ancestors, parent_of, what}
use Rattle.dwarf_entries.specs.Items.{Item, first_fault}
use Rattle.dwarf_entries.specs.Lookups.{attribute_of}
use Rattle.dwarf_entries.specs.Tags.{passes, is_named_scope}
use Rattle.dwarf_dies.specs.Handles.{DieIn, beside}
use Rattle.dwarf_dies.proofs.Ancestors.{above_is, above_none, is_owner}
use Rattle.dwarf_items.specs.Scopes.{scope_items, text_items_if}

abbrev is_scope : Die → Bool
is_scope o = passes is_named_scope (what o)

-- the items of the nearest entry come last
nearest_last : (T : Die → List Item) (p : Die) (l : List Die) → flat_map T (reverse (filter is_scope (p ∷ l))) ≡ flat_map T (reverse (filter is_scope l)) ++ cond (is_scope p) (T p) []
nearest_last T p l = by_scope (is_scope p)
  where
    rest : List Die
    rest = filter is_scope l

    by_scope : (x : Bool) → flat_map T (reverse (cond x (p ∷ rest) rest)) ≡ flat_map T (reverse rest) ++ cond x (T p) []
    by_scope false = sym (append-nil (flat_map T (reverse rest)))
    by_scope true = ap (flat_map T) (reverse_onto rest p []) ∙ flat_map-append T (reverse rest) (p ∷ []) ∙ ap (λ x. flat_map T (reverse rest) ++ x) (append-nil (T p))

same_items : (info : Info) (T : Die → List Item) → ((o : Die) → T o ≡ text_items_if info o (attribute_of at_name o.entry)) → (d p : Die) → ancestors d ≡ p ∷ ancestors p
    → flat_map T (reverse (filter is_scope (ancestors d))) ≡ flat_map T (reverse (filter is_scope (ancestors p))) ++ scope_items info p
same_items info T same d p h =
    ap (λ l. flat_map T (reverse (filter is_scope l))) h ∙ nearest_last T p (ancestors p)
    ∙ ap (λ x. flat_map T (reverse (filter is_scope (ancestors p))) ++ cond (is_scope p) x []) (same p)

no_items : (T : Die → List Item) → (d : Die) → ancestors d ≡ [] → flat_map T (reverse (filter is_scope (ancestors d))) ≡ []
no_items T d h = ap (λ l. flat_map T (reverse (filter is_scope l))) h

-- the names around an entry are those around its parent, and then that of the parent
pub around_parent : (info : Info) (d p : Die) → parent_of d ≡ Some p → around_items info d ≡ around_items info p ++ scope_items info p
around_parent info d p h = same_items info _ (λ o. elim (attribute_of at_name o.entry) [ None ↦ refl | Some a ↦ refl ]) d p (above_is d p h)

pub around_none : (info : Info) (d : Die) → parent_of d ≡ None → around_items info d ≡ []
around_none info d h = no_items _ d (above_none d h)

-- one less is around the parent
pub parent_has_fewer : (d p : Die) → parent_of d ≡ Some p → length p.owners < length d.owners
parent_has_fewer d p h = let same = ap length (is_owner d p h).owners in omega (arith, same)

-- the same of an entry among all
pub fewer_around : (a u : DieIn) → Some u ≡ option_map (beside a) (parent_of a.die) → length u.die.owners < length a.die.owners
fewer_around a u h = by_parent (parent_of a.die) refl h
  where
    by_parent : (p : Option Die) → parent_of a.die ≡ p → Some u ≡ option_map (beside a) p → length u.die.owners < length a.die.owners
    by_parent None e g = absurd (cc)
    by_parent (Some d) e g =
        let fewer = parent_has_fewer a.die d e in
        let same : ◌≡◌ {A = Option DieIn} (Some u) (Some (beside a d)) = g in
        let is : u ≡ beside a d = cc in
        let long : length u.die.owners ≡ length d.owners = ap (λ (x : DieIn). length x.die.owners) is in
        omega (arith, fewer, long)

pub around_is : (a u : DieIn) → Some u ≡ option_map (beside a) (parent_of a.die) → around_items a.info a.die ≡ around_items u.info u.die ++ scope_items u.info u.die
around_is a u h = by_parent (parent_of a.die) refl h
  where
    by_parent : (p : Option Die) → parent_of a.die ≡ p → Some u ≡ option_map (beside a) p → around_items a.info a.die ≡ around_items u.info u.die ++ scope_items u.info u.die
    by_parent None e g = absurd (cc)
    by_parent (Some d) e g =
        let is : beside a d ≡ u = cc in
        around_parent a.info a.die d e ∙ ap (λ (x : DieIn). around_items x.info x.die ++ scope_items x.info x.die) is

pub nothing_around : (a : DieIn) → None ≡ option_map (beside a) (parent_of a.die) → first_fault (around_items a.info a.die) ≡ None
nothing_around a h = by_parent (parent_of a.die) refl h
  where
    by_parent : (p : Option Die) → parent_of a.die ≡ p → ◌≡◌ {A = Option DieIn} None (option_map (beside a) p) → first_fault (around_items a.info a.die) ≡ None
    by_parent None e g = ap first_fault (around_none a.info a.die e)
    by_parent (Some d) e g = absurd (cc)
