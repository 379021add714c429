-- What units that are read have: their numbers, and first entries without parents.
use Rattle.std.proofs.Common.{◌≡◌, ℕ, zero, suc, ◌+◌, ◌==◌, ◌&&◌, if◌then◌else◌, Bool, true, false, List, [], ◌∷◌, ◌++◌, length, slice_get, is_none, Option, Some, None, refl, sym, ap, subst, ◌∙◌, arith}
use Rattle.rv_bytes.specs.Forms.{Splits, RowSpells}
use Rattle.dwarf_abbrev.specs.Declarations.{find_code}
use Rattle.dwarf_abbrev.specs.declared.decl.Abbrev.{Abbrev}
use Rattle.entry_tree.specs.Entries.{Entry as Node}
use Rattle.dwarf_units.specs.Rules.{unknown_code}
use Rattle.dwarf_units.specs.Entries.{Entry as ReadEntry, Walk, due_under, declared_breaks, after_code, after, entry, entries, present}
use Rattle.dwarf_units.specs.Units.{CompileUnit, SoFar, after_unit, unit, units}
use Rattle.dwarf_units.proofs.Again.{in_tree, in_unit}
use Rattle.dwarf_dies.proofs.Sections.{IsUnit, AreUnitsFrom}

-- a unit's tree doesn't begin with the code 0
none_first : (list : List Abbrev) (number : ℕ) (nodes : List Node) (n : ℕ) (t : List ℕ) → (entry list number (due_under nodes None)).spells n None t → ⊥
none_first list number nodes n t h = by_declaration (find_code list h.0) h.1.is_front.1 h.1.is_back
  where
    by_zero : (b : Bool) → (if b && false then None else Some unknown_code) ≡ None → ⊥
    by_zero true e = absurd (cc)
    by_zero false e = absurd (cc)

    by_declaration : (o : Option Abbrev) → declared_breaks (due_under nodes None) h.0 o ≡ None → (after_code number (due_under nodes None) n h.0 o).spells (n + length h.1.front) None h.1.back → ⊥
    by_declaration None b a = by_zero (h.0 == 0) b
    by_declaration (Some d) b a = let e = a.1.0 in absurd (cc)

-- an entry has the parent below which it is due
entry_up : (list : List Abbrev) (number : ℕ) (s : Walk) (n : ℕ) (t : List ℕ) (e : ReadEntry) → (entry list number s).spells n (Some e) t → e.node.up ≡ s.under
entry_up list number s n t e h = by_declaration (find_code list h.0) h.1.is_back
  where
    by_declaration : (o : Option Abbrev) → (after_code number s n h.0 o).spells (n + length h.1.front) (Some e) h.1.back → e.node.up ≡ s.under
    by_declaration None a = let q = a.0 in absurd (cc)
    by_declaration (Some d) a =
        let made : ReadEntry = record { node = record { offset = n; unit = number; code = h.0; tag = d.tag; up = s.under }; children = d.children; attributes = a.0 } in
        let q : Some e ≡ Some made = a.1.0 in
        let same : e ≡ made = cc in
        ap (λ (x : ReadEntry). x.node.up) same

-- a walk ends where no entry is due below another
abbrev IsGoing : Walk → Type 0
IsGoing s = s.ended ≡ is_none s.under

-- so each entry after the first has a parent
going_up : (list : List Abbrev) (number : ℕ) (s : Walk) (m : ℕ) (rows : List (Option ReadEntry)) (t : List ℕ) → IsGoing s → RowSpells (entries list number) s m rows t
    → (i : ℕ) (e : ReadEntry) → slice_get (present rows) i ≡ Some e → e.node.up ≡ None → ⊥
going_up list number s m [] t going h i e g none = absurd (cc)
going_up list number s m (None ∷ rows) t going h i e g none = going_up list number (after s None) (m + length h.1.front) rows h.1.back refl h.1.is_back i e g none
going_up list number s m (Some d ∷ rows) t going h zero e g none =
    let same : d ≡ e = cc in
    let under : s.under ≡ None = sym (entry_up list number s m h.1.front d h.1.is_front) ∙ ap (λ (x : ReadEntry). x.node.up) same ∙ none in
    let clash : false ≡ true = sym h.0 ∙ going ∙ ap is_none under in
    absurd (cc)
going_up list number s m (Some d ∷ rows) t going h (suc i) e g none = going_up list number (after s (Some d)) (m + length h.1.front) rows h.1.back refl h.1.is_back i e g none

-- the first entry has none
first_root : (list : List Abbrev) (number : ℕ) (nodes : List Node) (m : ℕ) (rows : List (Option ReadEntry)) (t : List ℕ) → RowSpells (entries list number) (due_under nodes None) m rows t
    → (e : ReadEntry) → slice_get (present rows) 0 ≡ Some e → e.node.up ≡ None
first_root list number nodes m [] t h e g = absurd (cc)
first_root list number nodes m (None ∷ rows) t h e g = absurd (none_first list number nodes m h.1.front h.1.is_front)
first_root list number nodes m (Some d ∷ rows) t h e g = let same : d ≡ e = cc in subst (λ (x : ReadEntry). x.node.up ≡ None) same (entry_up list number (due_under nodes None) m h.1.front d h.1.is_front)

others_up : (list : List Abbrev) (number : ℕ) (nodes : List Node) (m : ℕ) (rows : List (Option ReadEntry)) (t : List ℕ) → RowSpells (entries list number) (due_under nodes None) m rows t
    → (i : ℕ) (e : ReadEntry) → slice_get (present rows) (suc i) ≡ Some e → e.node.up ≡ None → ⊥
others_up list number nodes m [] t h i e g none = absurd (cc)
others_up list number nodes m (None ∷ rows) t h i e g none = absurd (none_first list number nodes m h.1.front h.1.is_front)
others_up list number nodes m (Some d ∷ rows) t h i e g none = going_up list number (after (due_under nodes None) (Some d)) (m + length h.1.front) rows h.1.back refl h.1.is_back i e g none

is_unit : (abbrevs : List ℕ) (s : SoFar) (n : ℕ) (u : CompileUnit) (own : List ℕ) → (unit abbrevs s).spells n u own → IsUnit s.units u
is_unit abbrevs s n u own h =
    let q = in_unit abbrevs s n u own h in
    record {
      units = λ i e g. (in_tree u.table s.units s.nodes (n + length q.lead) u.entries q.tree_bytes [] q.spells i e g).read.unit_number;
      root = λ e g. first_root u.table s.units s.nodes (n + length q.lead) q.spells.0 q.tree_bytes q.spells.1.1 e (ap (λ (l : List ReadEntry). slice_get l 0) (sym q.spells.1.0) ∙ g);
      others = λ i e g. others_up u.table s.units s.nodes (n + length q.lead) q.spells.0 q.tree_bytes q.spells.1.1 i e (ap (λ (l : List ReadEntry). slice_get l (suc i)) (sym q.spells.1.0) ∙ g);
    }

-- units have their numbers
pub are_units : (abbrevs : List ℕ) (s : SoFar) (n : ℕ) (us : List CompileUnit) (t : List ℕ) → RowSpells (units abbrevs) s n us t → AreUnitsFrom s.units us
are_units abbrevs s n [] t h = tt
are_units abbrevs s n (u ∷ us) t h = (is_unit abbrevs s n u h.1.front h.1.is_front, are_units abbrevs (after_unit s u) (n + length h.1.front) us h.1.back h.1.is_back)
