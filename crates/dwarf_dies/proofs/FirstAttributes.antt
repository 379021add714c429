-- The attributes of entries, as they are read again.
use Rattle.std.proofs.Common.{◌≡◌, ◌==◌, ℕ, zero, suc, List, [], ◌∷◌, map, slice_get, find, cond, is_some, Bool, true, false, Option, Some, None, option_and_then, refl, sym, ap, ◌∙◌}
use Rattle.std.specs.Option.{option_map}
use Rattle.dwarf_abbrev.specs.Values.{Val, val_of}
use Rattle.dwarf_abbrev.specs.declared.attr.Attr.{Attr}
use Rattle.dwarf_units.specs.Attributes.{attribute_seen, attributes_at}
use Rattle.dwarf_units.specs.Entries.{Attribute as ReadAttribute, Entry as ReadEntry}
use Rattle.dwarf_units.specs.Kept.{entries_in}
use Rattle.dwarf_units.specs.declared.attributes.EntryAttribute.{EntryAttribute}
use Rattle.dwarf_units.specs.declared.units.Units.{Units}
use Rattle.dwarf_entries.specs.Dies.{Die, Info}
use Rattle.dwarf_entries.specs.Lookups.{attribute_of as first_attribute, flag_of, is_set}
use Rattle.dwarf_entries.specs.Shapes.{Attribute, Entry, Sections}
use Rattle.dwarf_dies.specs.Attributes.{attribute_kept, attributes_of_die, first_of, value_in}
use Rattle.dwarf_dies.specs.Units.{attribute_of, entry_of, numbered_from}
use Rattle.dwarf_dies.specs.Views.{die_of, info_read, IsView}
use Rattle.dwarf_dies.proofs.Numbers.{die_read, dies_entries}
use Rattle.dwarf_dies.proofs.Views.{info_is}

fused : {A B C : Type 0} (f : A → B) (g : B → C) (o : Option A) → option_map g (option_map f o) ≡ option_map (λ a. g (f a)) o
fused f g None = refl
fused f g (Some a) = refl

pub attributes_are : (abbrevs : List ℕ) (sections : Sections) (kept : Units) (count : ℕ) (info : Info) (v : IsView abbrevs sections.info kept count) → info_read abbrevs sections ≡ info → (n : ℕ)
    → option_map (map attribute_of) (attributes_at (entries_in v.are_kept.units) n) ≡ option_map attributes_of_die (die_of info n)
attributes_are abbrevs sections kept count info v is n =
    let us = v.are_kept.units in
    let dies : map (λ (d : Die). d.entry) info.dies ≡ numbered_from 0 (entries_in us) =
    ap (λ (i : Info). map (λ (d : Die). d.entry) i.dies) (sym is ∙ info_is abbrevs sections us v.are_kept.are) ∙ dies_entries 0 us in
    fused (λ (e : ReadEntry). e.attributes) (map attribute_of) (slice_get (entries_in us) n)
    ∙ sym (die_read (λ (e : Entry). e.attributes) (λ (e : ReadEntry). map attribute_of e.attributes) (λ k e. refl) (entries_in us) info.dies dies n)

found_kept : (code : ℕ) (l : List ReadAttribute) → option_map attribute_of (find (λ (a : ReadAttribute). a.attr == code) l) ≡ find (λ (a : Attribute). a.code == code) (map attribute_of l)
found_kept code [] = refl
found_kept code (a ∷ l) = by_test (a.attr == code)
    ∙ ap (cond (a.attr == code) (Some (attribute_of a))) (found_kept code l)
  where
    by_test : (b : Bool) → option_map attribute_of (cond b (Some a) (find (λ (a : ReadAttribute). a.attr == code) l)) ≡ cond b (Some (attribute_of a)) (option_map attribute_of (find (λ (a : ReadAttribute). a.attr == code) l))
    by_test true = refl
    by_test false = refl

-- the first with a code
pub first_is : (code : ℕ) (l : List ReadAttribute) (r : Option EntryAttribute) (x : Option Die) → ◌≡◌ {A = Option (List Attribute)} (Some (map attribute_of l)) (option_map attributes_of_die x)
    → option_map attribute_seen r ≡ find (λ (a : ReadAttribute). a.attr == code) l → option_map attribute_kept r ≡ option_and_then (first_of code) x
first_is code l r None h g = absurd (cc)
first_is code l r (Some d) h g =
    let same : map attribute_of l ≡ d.entry.attributes = cc in
    sym (fused attribute_seen attribute_of r) ∙ ap (option_map attribute_of) g ∙ found_kept code l ∙ ap (find (λ (a : Attribute). a.code == code)) same

pub no_first : (code : ℕ) (x : Option Die) → ◌≡◌ {A = Option (List Attribute)} None (option_map attributes_of_die x) → ◌≡◌ {A = Option Attribute} None (option_and_then (first_of code) x)
no_first code None h = refl
no_first code (Some d) h = absurd (cc)

-- its value
pub value_is : (code : ℕ) (r : Option EntryAttribute) (x : Option Die) → option_map attribute_kept r ≡ option_and_then (first_of code) x → option_map (λ (a : EntryAttribute). val_of a.value) r ≡ option_and_then (value_in code) x
value_is code r None h = none r h
  where
    none : (r : Option EntryAttribute) → option_map attribute_kept r ≡ None → option_map (λ (a : EntryAttribute). val_of a.value) r ≡ None
    none None h = refl
    none (Some a) h = absurd (cc)
value_is code r (Some d) h = sym (fused attribute_kept (λ (a : Attribute). a.value) r) ∙ ap (option_map (λ (a : Attribute). a.value)) h ∙ mapped (first_attribute code d.entry)
  where
    mapped : (o : Option Attribute) → option_map (λ (a : Attribute). a.value) o ≡ option_and_then (λ (a : Attribute). Some a.value) o
    mapped None = refl
    mapped (Some a) = refl

-- what is said by a value
pub said_by : {B : Type 0} (f : Val → Option B) (code : ℕ) (r : Option Attr) (x : Option Die) → option_map val_of r ≡ option_and_then (value_in code) x
    → option_and_then (λ (a : Attr). f (val_of a)) r ≡ option_and_then (λ (d : Die). option_and_then f (value_in code d)) x
said_by f code r x h = turned r ∙ ap (option_and_then f) h ∙ nested x
  where
    turned : (r : Option Attr) → option_and_then (λ (a : Attr). f (val_of a)) r ≡ option_and_then f (option_map val_of r)
    turned None = refl
    turned (Some a) = refl

    nested : (x : Option Die) → option_and_then f (option_and_then (value_in code) x) ≡ option_and_then (λ (d : Die). option_and_then f (value_in code d)) x
    nested None = refl
    nested (Some d) = refl

pub has_is : (code : ℕ) (r : Option EntryAttribute) (x : Option Die) → option_map attribute_kept r ≡ option_and_then (first_of code) x → is_some r ≡ is_some (option_and_then (first_of code) x)
has_is code r x h = mapped r ∙ ap is_some h
  where
    mapped : (r : Option EntryAttribute) → is_some r ≡ is_some (option_map attribute_kept r)
    mapped None = refl
    mapped (Some a) = refl
