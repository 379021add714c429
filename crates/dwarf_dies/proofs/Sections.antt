-- The entries of all units of a section.
use Rattle.std.proofs.Common.{◌≡◌, ◌<◌, ◌≤◌, ℕ, zero, suc, ◌+◌, ◌-◌, option_and_then, List, [], ◌∷◌, ◌++◌, length, map, slice_get, flat_map, Option, Some, None, ◌⊎◌, inl, inr, refl, sym, ap, subst, ◌∙◌, arith, add-zero}
use Rattle.std.specs.Option.{option_map}
use Rattle.entry_tree.specs.Entries.{Entry as Node}
use Rattle.entry_tree.specs.Invariant.{AreInPrefixOrder}
use Rattle.entry_tree.proofs.Finds.{some_at, within}
use Rattle.entry_tree.proofs.Ways.{earlier}
use Rattle.dwarf_units.specs.Entries.{Entry as ReadEntry}
use Rattle.dwarf_units.specs.Kept.{entries_in}
use Rattle.dwarf_units.specs.Units.{CompileUnit, nodes_in}
use Rattle.dwarf_entries.specs.Dies.{Die, ancestors_in, bases_of, dies_after, dies_of, owning, parent_of}
use Rattle.dwarf_entries.specs.Shapes.{Entry, DwarfUnit}
use Rattle.dwarf_entries.specs.declared.sections.Bases.{Bases}
use Rattle.dwarf_dies.specs.Units.{entry_of, numbered_from, units_from}
use Rattle.dwarf_dies.proofs.Numbers.{numbered_at, numbered_append, after_entries}
use Rattle.dwarf_dies.proofs.Ways.{AreNumbered, IsWay, one_way, IsOwned, unit_owned}

-- what stands at an index of two lists, one after the other, is in one of them
pub in_both : {A : Type 0} (xs ys : List A) (i : ℕ) (a : A) → slice_get (xs ++ ys) i ≡ Some a → (slice_get xs i ≡ Some a) ⊎ ((j : ℕ) × ((i ≡ length xs + j) × (slice_get ys j ≡ Some a)))
in_both [] ys i a h = inr (i, (omega arith, h))
in_both (x ∷ xs) ys zero a h = inl h
in_both (x ∷ xs) ys (suc i) a h = elim (in_both xs ys i a h) [
  | inl f ↦ inl f
  | inr w ↦ inr (w.0, (omega (arith, w.1.0), w.1.1))
]

pub in_left : {A : Type 0} (xs ys : List A) (i : ℕ) (a : A) → slice_get xs i ≡ Some a → slice_get (xs ++ ys) i ≡ Some a
in_left [] ys i a h = absurd (cc)
in_left (x ∷ xs) ys zero a h = h
in_left (x ∷ xs) ys (suc i) a h = in_left xs ys i a h

pub in_right : {A : Type 0} (xs ys : List A) (i : ℕ) → slice_get (xs ++ ys) (length xs + i) ≡ slice_get ys i
in_right [] ys i = ap (slice_get ys) (let z : 0 + i ≡ i = omega arith in z)
in_right (x ∷ xs) ys i = ap (slice_get (x ∷ (xs ++ ys))) (let z : suc (length xs) + i ≡ suc (length xs + i) = omega arith in z) ∙ in_right xs ys i

-- the entries of a unit that was read have its number, and the first alone has no parent
pub record IsUnit (number : ℕ) (u : CompileUnit) : Type 0 where
  pub units : (i : ℕ) (e : ReadEntry) → slice_get u.entries i ≡ Some e → e.node.unit ≡ number
  pub root : (e : ReadEntry) → slice_get u.entries 0 ≡ Some e → e.node.up ≡ None
  pub others : (i : ℕ) (e : ReadEntry) → slice_get u.entries (suc i) ≡ Some e → e.node.up ≡ None → ⊥

-- the same of units, the first of which has this number
abbrev pub AreUnitsFrom : ℕ → List CompileUnit → Type 0
AreUnitsFrom k [] = Unit {0}
AreUnitsFrom k (u ∷ us) = IsUnit k u × AreUnitsFrom (k + 1) us

numbered_long : (k : ℕ) (es : List ReadEntry) → length (numbered_from k es) ≡ length es
numbered_long k [] = refl
numbered_long k (e ∷ es) = ap suc (numbered_long (k + 1) es)

dies_long : (unit : DwarfUnit) (way es : List Entry) → length (dies_after unit way es) ≡ length es
dies_long unit way [] = refl
dies_long unit way (e ∷ es) = ap suc (dies_long unit (e ∷ owning e.up way) es)

-- an entry of a unit, as it was read, and its unit
pub record IsOfUnit (us : List CompileUnit) (k i : ℕ) (d : Die) : Type 0 where
  pub number : ℕ
  pub unit : CompileUnit
  pub at : slice_get us number ≡ Some unit
  pub first : ℕ
  pub start : d.start ≡ unit.header.offset
  pub bases : d.bases ≡ bases_of (slice_get (numbered_from first unit.entries) 0)
  pub read : ReadEntry
  pub read_at : slice_get (entries_in us) i ≡ Some read
  pub unit_number : read.node.unit ≡ k + number

-- what an entry has of its unit
record HasUnit (unit : DwarfUnit) (es : List Entry) (i : ℕ) (d : Die) : Type 0 where
  start : d.start ≡ unit.start
  bases : d.bases ≡ bases_of (slice_get unit.entries 0)
  there : slice_get es i ≡ Some d.entry

has_unit : (unit : DwarfUnit) (way es : List Entry) (i : ℕ) (d : Die) → slice_get (dies_after unit way es) i ≡ Some d → HasUnit unit es i d
has_unit unit way [] i d h = absurd (cc)
has_unit unit way (e ∷ es) zero d h =
    let made : Die = record { start = unit.start; bases = bases_of (slice_get unit.entries 0); owners = owning e.up way; entry = e } in
    let same : made ≡ d = cc in
    subst (λ (x : Die). HasUnit unit (e ∷ es) zero x) same (record { start = refl; bases = refl; there = refl })
has_unit unit way (e ∷ es) (suc i) d h = let w = has_unit unit (e ∷ owning e.up way) es i d h in record { start = w.start; bases = w.bases; there = w.there }

-- an entry that has a number is one that was read
pub read_back : (k : ℕ) (es : List ReadEntry) (i : ℕ) (e : Entry) → slice_get (numbered_from k es) i ≡ Some e → (r : ReadEntry) × (slice_get es i ≡ Some r)
read_back k [] i e h = absurd (cc)
read_back k (r ∷ es) zero e h = (r, refl)
read_back k (r ∷ es) (suc i) e h = read_back (k + 1) es i e h

abbrev unit_from : ℕ → CompileUnit → DwarfUnit
unit_from p u = record { start = u.header.offset; entries = numbered_from p u.entries }

of_first : (u : CompileUnit) (us : List CompileUnit) (k p : ℕ) → IsUnit k u → (i : ℕ) (d : Die) → slice_get (dies_of (unit_from p u)) i ≡ Some d → IsOfUnit (u ∷ us) k i d
of_first u us k p is i d f =
    let w = has_unit (unit_from p u) [] (numbered_from p u.entries) i d f in
    let r = read_back p u.entries i d.entry w.there in
    record {
      number = zero;
      unit = u;
      at = refl;
      first = p;
      start = w.start;
      bases = w.bases;
      read = r.0;
      read_at = in_left u.entries (entries_in us) i r.0 r.1;
      unit_number = is.units i r.0 r.1 ∙ sym (add-zero k);
    }

of_others : (u : CompileUnit) (us : List CompileUnit) (k p i j : ℕ) (d : Die) → i ≡ length (dies_of (unit_from p u)) + j → IsOfUnit us (k + 1) j d → IsOfUnit (u ∷ us) k i d
of_others u us k p i j d is q =
    let place : i ≡ length u.entries + j = omega (arith, is, dies_long (unit_from p u) [] (numbered_from p u.entries), numbered_long p u.entries) in
    record {
      number = suc q.number;
      unit = q.unit;
      at = q.at;
      first = q.first;
      start = q.start;
      bases = q.bases;
      read = q.read;
      read_at = ap (slice_get (u.entries ++ entries_in us)) place ∙ in_right u.entries (entries_in us) j ∙ q.read_at;
      unit_number = omega (arith, q.unit_number);
    }

pub of_unit : (us : List CompileUnit) (k p : ℕ) → AreUnitsFrom k us → (i : ℕ) (d : Die) → slice_get (flat_map dies_of (units_from p us)) i ≡ Some d → IsOfUnit us k i d
of_unit [] k p are i d h = absurd (cc)
of_unit (u ∷ us) k p are i d h = elim (in_both (dies_of (unit_from p u)) (flat_map dies_of (units_from (p + length u.entries) us)) i d h) [
  | inl f ↦ of_first u us k p are.0 i d f
  | inr f ↦ of_others u us k p i f.0 d f.1.0 (of_unit us (k + 1) (p + length u.entries) are.1 f.0 d f.1.1)
]

-- all these entries are there, from this number on
abbrev AreThere : List Entry → ℕ → List ReadEntry → Type 0
AreThere es p xs = (i : ℕ) (e : Entry) → slice_get (numbered_from p xs) i ≡ Some e → slice_get es (p + i) ≡ Some e

own_there : (es : List Entry) (p : ℕ) (u : CompileUnit) (us : List CompileUnit) → AreThere es p (entries_in (u ∷ us)) → AreThere es p u.entries
own_there es p u us there j e g = there j e (ap (λ l. slice_get l j) (numbered_append p u.entries (entries_in us)) ∙ in_left (numbered_from p u.entries) (numbered_from (p + length u.entries) (entries_in us)) j e g)

others_there : (es : List Entry) (p : ℕ) (u : CompileUnit) (us : List CompileUnit) → AreThere es p (entries_in (u ∷ us)) → AreThere es (p + length u.entries) (entries_in us)
others_there es p u us there j e g =
    ap (slice_get es) (let z : p + length u.entries + j ≡ p + (length (numbered_from p u.entries) + j) = omega (arith, numbered_long p u.entries) in z)
    ∙ there (length (numbered_from p u.entries) + j) e
    (ap (λ l. slice_get l (length (numbered_from p u.entries) + j)) (numbered_append p u.entries (entries_in us))
    ∙ in_right (numbered_from p u.entries) (numbered_from (p + length u.entries) (entries_in us)) j ∙ g)

no_parent : (p : ℕ) (xs : List ReadEntry) → ((e : ReadEntry) → slice_get xs 0 ≡ Some e → e.node.up ≡ None) → (e : Entry) → slice_get (numbered_from p xs) 0 ≡ Some e → e.up ≡ None
no_parent p [] f e g = absurd (cc)
no_parent p (x ∷ xs) f e g = let same : entry_of p x ≡ e = cc in sym (ap (λ (y : Entry). y.up) same) ∙ f x refl

-- these entries are there, from this number on
abbrev AreDies : List Die → ℕ → List Die → Type 0
AreDies ds p xs = (i : ℕ) (d : Die) → slice_get xs i ≡ Some d → slice_get ds (p + i) ≡ Some d

abbrev die : ℕ → Bases → List Entry → Entry → Die
die start bases owners entry = record { start = start; bases = bases; owners = owners; entry = entry }

other_dies : (ds : List Die) (p : ℕ) (u : CompileUnit) (us : List CompileUnit) → AreDies ds p (flat_map dies_of (units_from p (u ∷ us))) → AreDies ds (p + length u.entries) (flat_map dies_of (units_from (p + length u.entries) us))
other_dies ds p u us dies j e g =
    ap (slice_get ds) (let z : p + length u.entries + j ≡ p + (length (dies_of (unit_from p u)) + j) = omega (arith, dies_long (unit_from p u) [] (numbered_from p u.entries), numbered_long p u.entries) in z)
    ∙ dies (length (dies_of (unit_from p u)) + j) e (in_right (dies_of (unit_from p u)) (flat_map dies_of (units_from (p + length u.entries) us)) j ∙ g)

-- an entry with its parent, which is the one with the number of its parent
pub record HasParent (es : List Entry) (ds : List Die) (n : ℕ) (d : Die) : Type 0 where
  pub entry : slice_get es n ≡ Some d.entry
  pub parent : parent_of d ≡ option_and_then (λ k. slice_get ds k) d.entry.up
  pub root : d.entry.up ≡ None → d.bases ≡ bases_of (Some d.entry)

-- the bases of an entry without a parent are its own
root_bases : (unit : DwarfUnit) → ((j : ℕ) (e : Entry) → slice_get unit.entries (suc j) ≡ Some e → e.up ≡ None → ⊥) → (i : ℕ) (d : Die) → slice_get (dies_of unit) i ≡ Some d → d.entry.up ≡ None → d.bases ≡ bases_of (Some d.entry)
root_bases unit others zero d h none = let w = has_unit unit [] unit.entries zero d h in w.bases ∙ ap bases_of w.there
root_bases unit others (suc i) d h none = absurd (others i d.entry (has_unit unit [] unit.entries (suc i) d h).there none)

have_parents : (p : ℕ) (xs : List ReadEntry) → ((i : ℕ) (e : ReadEntry) → slice_get xs (suc i) ≡ Some e → e.node.up ≡ None → ⊥) → (j : ℕ) (e : Entry) → slice_get (numbered_from p xs) (suc j) ≡ Some e → e.up ≡ None → ⊥
have_parents p xs f j e g none =
    let r = read_back p xs (suc j) e g in
    let q : Some (entry_of (p + suc j) r.0) ≡ Some e = sym (ap (option_map (entry_of (p + suc j))) r.1) ∙ sym (numbered_at p xs (suc j)) ∙ g in
    let same : entry_of (p + suc j) r.0 ≡ e = cc in
    f j r.0 r.1 (ap (λ (y : Entry). y.up) same ∙ none)

-- the parent of an entry of a unit is in the unit
in_unit : (t : List Node) (es : List Entry) → AreNumbered t es → AreInPrefixOrder t → length es ≡ length t → (ds : List Die) (unit : DwarfUnit) (p : ℕ) → AreDies ds p (dies_of unit)
    → ((j : ℕ) (e : Entry) → slice_get unit.entries (suc j) ≡ Some e → e.up ≡ None → ⊥)
    → ((i : ℕ) (d : Die) → slice_get (dies_of unit) i ≡ Some d → IsOwned es p (p + i) d) → (i : ℕ) (d : Die) → slice_get (dies_of unit) i ≡ Some d → HasParent es ds (p + i) d
in_unit t es num order long ds unit p there others owned i d h = record { entry = own.entry; parent = by_up d.entry.up refl d.owners refl own.owners; root = root_bases unit others i d h }
  where
    own : IsOwned es p (p + i) d
    own = owned i d h

    by_up : (u : Option ℕ) → d.entry.up ≡ u → (owners : List Entry) → d.owners ≡ owners → IsWay es p u owners → parent_of d ≡ option_and_then (λ k. slice_get ds k) u
    by_up None q [] g w = ap (λ (l : List Entry). slice_get (ancestors_in d l) 0) g
    by_up None q (e ∷ owners) g w = absurd w
    by_up (Some k) q [] g w = absurd w
    by_up (Some k) q (e ∷ owners) g w =
        let up = (num (p + i) d.entry own.entry).up ∙ q in
        let before : k < p + i = earlier t order (p + i) k up in
        let place : p + (k - p) ≡ k = omega (arith, w.0.1) in
        let inside : k - p < length (dies_of unit) = omega (arith, before, w.0.1, within (dies_of unit) i d h) in
        let s = some_at (dies_of unit) (k - p) inside in
        let other : Die = s.0 in
        let mine = has_unit unit [] unit.entries i d h in
        let its = has_unit unit [] unit.entries (k - p) other s.1 in
        let o = owned (k - p) other s.1 in
        let both : Some e ≡ Some other.entry = sym w.0.0 ∙ ap (slice_get es) (sym place) ∙ o.entry in
        let entry : e ≡ other.entry = cc in
        let ways : owners ≡ other.owners = one_way es p other.entry.up owners other.owners (subst (λ (x : Entry). IsWay es p x.up owners) entry w.1) o.owners in
        ap (λ (l : List Entry). slice_get (ancestors_in d l) 0) g
        ∙ ap (λ (x : ℕ). Some (die x d.bases owners e)) (mine.start ∙ sym its.start) ∙ ap (λ (x : Bases). Some (die other.start x owners e)) (mine.bases ∙ sym its.bases)
        ∙ ap (λ (x : List Entry). Some (die other.start other.bases x e)) ways ∙ ap (λ (x : Entry). Some (die other.start other.bases other.owners x)) entry
        ∙ sym (there (k - p) other s.1) ∙ ap (slice_get ds) place

-- all entries have their parents
pub all_parents : (t : List Node) (es : List Entry) → AreNumbered t es → AreInPrefixOrder t → length es ≡ length t → (ds : List Die) (us : List CompileUnit) (k p : ℕ) → AreUnitsFrom k us
    → AreThere es p (entries_in us) → AreDies ds p (flat_map dies_of (units_from p us)) → (i : ℕ) (d : Die) → slice_get (flat_map dies_of (units_from p us)) i ≡ Some d → HasParent es ds (p + i) d
all_parents t es num order long ds [] k p are there dies i d h = absurd (cc)
all_parents t es num order long ds (u ∷ us) k p are there dies i d h = elim (in_both (dies_of (unit_from p u)) (flat_map dies_of (units_from (p + length u.entries) us)) i d h) [
  | inl f ↦ in_unit t es num order long ds (unit_from p u) p (λ j e g. dies j e (in_left (dies_of (unit_from p u)) (flat_map dies_of (units_from (p + length u.entries) us)) j e g))
      (have_parents p u.entries are.0.others) (λ j e g. unit_owned t es num order long (unit_from p u) p p (omega arith) [] (numbered_from p u.entries) (own_there es p u us there) (inr (no_parent p u.entries are.0.root)) j e g) i d f
  | inr f ↦
      subst (λ n. HasParent es ds n d) (let z : p + length u.entries + f.0 ≡ p + i = omega (arith, f.1.0, dies_long (unit_from p u) [] (numbered_from p u.entries), numbered_long p u.entries) in z)
      (all_parents t es num order long ds us (k + 1) (p + length u.entries) are.1 (others_there es p u us there) (other_dies ds p u us dies) f.0 d f.1.1)
]
