-- The attributes that are looked at have low codes.
use Rattle.std.proofs.Common.{◌≡◌, ◌<◌, ◌≤◌, ℕ, ◌+◌, ◌==◌, nat_lt, ◌&&◌, Bool, true, false, cond, List, [], ◌∷◌, drop, length, get_or, map, flat_map, Option, Some, None, refl, sym, ap, subst, ◌∙◌, eqb-true}
use Rattle.std.specs.List.{list_all}
use Rattle.std.proofs.lemmas.List.Folds.{flat_map-map}
use Rattle.dwarf_entries.specs.AttributeItems.{firsts}
use Rattle.dwarf_entries.specs.Dies.{Info, what}
use Rattle.dwarf_entries.specs.Items.{Item, Spot, first_fault}
use Rattle.dwarf_entries.specs.PassB.{attribute_items, class_items, entry_items, pass_b, row_class}
use Rattle.dwarf_entries.specs.Rows.{Column, class_in, row_of}
use Rattle.dwarf_entries.specs.Shapes.{Attribute}
use Rattle.dwarf_entries.specs.declared.tag.Tag.{Tag}
use Rattle.dwarf_units.specs.declared.attributes.EntryAttribute.{EntryAttribute}
use Rattle.dwarf_dies.specs.Attributes.{attribute_kept}
use Rattle.dwarf_dies.specs.Handles.{DieIn, among}
use Rattle.layout_set.specs.declared.refusal.ReadErr.{ReadErr}
use Rattle.dwarf_items.specs.Answers.{IsFault}
use Rattle.dwarf_items.specs.Firsts.{code_limit, is_low, low_firsts}
use Rattle.dwarf_items.proofs.Faults.{all_done, at_more, at_stops, one_more, one_stops}
use Rattle.dwarf_items.proofs.LowFirsts.{low_enough}

abbrev all_low : List Column → Bool
all_low row = list_all (λ (c : Column). nat_lt c.code code_limit) row

rows_low : (t : Tag) → all_low (row_of t) ≡ true
rows_low Tag.CompileUnit = refl
rows_low Tag.Namespace = refl
rows_low Tag.BaseType = refl
rows_low Tag.StructureType = refl
rows_low Tag.UnionType = refl
rows_low Tag.Member = refl
rows_low Tag.TemplateTypeParameter = refl
rows_low Tag.VariantPart = refl
rows_low Tag.Variant = refl
rows_low Tag.PointerType = refl
rows_low Tag.ArrayType = refl
rows_low Tag.SubrangeType = refl
rows_low Tag.EnumerationType = refl
rows_low Tag.Enumerator = refl
rows_low Tag.SubroutineType = refl
rows_low Tag.Typedef = refl
rows_low Tag.Subprogram = refl
rows_low Tag.LexicalBlock = refl
rows_low Tag.Variable = refl
rows_low Tag.FormalParameter = refl

and_right : (a b : Bool) → (a && b) ≡ true → b ≡ true
and_right true b h = h
and_right false b h = absurd (cc)

no_class : (code : ℕ) (row : List Column) → all_low row ≡ true → nat_lt code code_limit ≡ false → class_in code row ≡ None
no_class code [] low high = refl
no_class code (c ∷ row) low high = by_code (λ l. no_class code row l high) (code == c.code) refl (nat_lt c.code code_limit) refl low
  where
    by_code : (all_low row ≡ true → class_in code row ≡ None) → (x : Bool) → (code == c.code) ≡ x → (y : Bool) → nat_lt c.code code_limit ≡ y → (y && all_low row) ≡ true → cond x (Some c.class) (class_in code row) ≡ None
    by_code rest false e y f g = rest (and_right y (all_low row) g)
    by_code rest true e true f g =
        let same : code ≡ c.code = eqb-true code c.code e in
        let clash : ◌≡◌ {A = Bool} true false = sym f ∙ ap (λ n. nat_lt n code_limit) (sym same) ∙ high in
        absurd (cc)
    by_code rest true e false f g = absurd (cc)

no_row_class : (code : ℕ) (t : Option Tag) → nat_lt code code_limit ≡ false → row_class code t ≡ None
no_row_class code None high = refl
no_row_class code (Some t) high = no_class code (row_of t) (rows_low t) high

no_items : (o : DieIn) (a : Attribute) → is_low a ≡ false → attribute_items o.info o.die a ≡ []
no_items o a high = ap (class_items o.info o.die a) (no_row_class a.code (what o.die) high)

-- the items of an attribute that was read
abbrev pub items_at : DieIn → EntryAttribute → List Item
items_at o a = attribute_items o.info o.die (attribute_kept a)

-- the first fault of some attributes of an entry
abbrev pub fault_in : DieIn → List EntryAttribute → Option (ℕ × Spot)
fault_in o l = first_fault (flat_map (items_at o) l)

-- the low ones are enough
pub looked_all : (o : DieIn) (l : List EntryAttribute) → map attribute_kept l ≡ low_firsts o.die.entry → fault_in o l ≡ first_fault (flat_map (attribute_items o.info o.die) (firsts o.die.entry))
looked_all o l h =
    ap first_fault
    (sym (flat_map-map (attribute_items o.info o.die) attribute_kept l) ∙ ap (flat_map (attribute_items o.info o.die)) h
    ∙ low_enough (attribute_items o.info o.die) (no_items o) (firsts o.die.entry))

pub looked_stops : (o : DieIn) (items : List EntryAttribute) (i : ℕ) (d : EntryAttribute) (e : ReadErr) → map attribute_kept items ≡ low_firsts o.die.entry → fault_in o items ≡ fault_in o (drop i items) → i < length items
    → IsFault (first_fault (attribute_items o.info o.die (attribute_kept (get_or items i d)))) e → IsFault (first_fault (flat_map (attribute_items o.info o.die) (firsts o.die.entry))) e
looked_stops o items i d e are same h g = subst (λ (x : Option (ℕ × Spot)). IsFault x e) (sym same ∙ looked_all o items are) (at_stops (items_at o) items i d e h g)

pub looked_more : (o : DieIn) (items : List EntryAttribute) (i : ℕ) (d : EntryAttribute) → i < length items → first_fault (attribute_items o.info o.die (attribute_kept (get_or items i d))) ≡ None → fault_in o (drop i items) ≡ fault_in o (drop (i + 1) items)
looked_more o items i d h g = at_more (items_at o) items i d h g

pub looked_done : (o : DieIn) (items : List EntryAttribute) (i : ℕ) → map attribute_kept items ≡ low_firsts o.die.entry → fault_in o items ≡ fault_in o (drop i items) → length items ≤ i → first_fault (flat_map (attribute_items o.info o.die) (firsts o.die.entry)) ≡ None
looked_done o items i are same h = sym (looked_all o items are) ∙ same ∙ all_done (items_at o) items i h

-- the items of an entry among all
abbrev pub items_among : DieIn → List Item
items_among a = entry_items a.info a.die

-- the first fault of some entries
abbrev pub fault_among : List DieIn → Option (ℕ × Spot)
fault_among l = first_fault (flat_map items_among l)

pub all_among : (info : Info) → first_fault (pass_b info) ≡ fault_among (map (among info) info.dies)
all_among info = ap first_fault (sym (flat_map-map items_among (among info) info.dies))

-- entries, one by one
pub among_more : (l rest : List DieIn) (a : DieIn) → l ≡ a ∷ rest → first_fault (entry_items a.info a.die) ≡ None → fault_among l ≡ fault_among rest
among_more l rest a is h = one_more items_among l a rest is h

pub among_stops : (info : Info) (l rest : List DieIn) (a : DieIn) (e : ReadErr) → first_fault (pass_b info) ≡ fault_among l → l ≡ a ∷ rest → IsFault (first_fault (entry_items a.info a.die)) e → IsFault (first_fault (pass_b info)) e
among_stops info l rest a e same is h = subst (λ (x : Option (ℕ × Spot)). IsFault x e) (sym same) (one_stops items_among l a rest e is h)
