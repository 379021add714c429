-- Sections describe a set, or break a first rule: it is never both denied.
use Rattle.std.proofs.Common.{◌≡◌, ◌<◌, ◌==◌, ℕ, ◌+◌, ◌-◌, ◌^◌, zero, suc, min, Bool, true, false, List, [], ◌∷◌, ◌++◌, length, length-append, append-nil, map, slice_get, Option, Some, None, Result, Ok, Err, ◌⊎◌, inl, inr, refl, sym, ap, subst, ◌∙◌, arith}
use Rattle.std.proofs.lemmas.Bool.Decides.{nat_tests}
use Rattle.rv_bytes.specs.Forms.{RowSpells, row}
use Rattle.rv_bytes.specs.Readers.{Res, got, bad}
use Rattle.rv_bytes.proofs.Exact.{Right}
use Rattle.bundle_file.specs.declared.sections.DwarfSections.{DwarfSections}
use Rattle.dwarf_units.specs.Units.{CompileUnit, SoFar, after_unit, at_start, units}
use Rattle.dwarf_units.specs.UnitReaders.{read_units}
use Rattle.dwarf_units.specs.Spots.{Spot as UnitSpot}
use Rattle.dwarf_units.proofs.UnitReads.{units_exact}
use Rattle.dwarf_units.proofs.Again.{in_unit}
use Rattle.dwarf_entries.specs.Dies.{Die, Info, info_of}
use Rattle.dwarf_entries.specs.Items.{Spot, first_fault}
use Rattle.dwarf_entries.specs.Said.{IsUnsound, items, said, set_of, type_dies}
use Rattle.dwarf_entries.specs.Rules.{first_law}
use Rattle.dwarf_entries.specs.Shapes.{DwarfUnit, Sections}
use Rattle.dwarf_dies.specs.Units.{all_units, dwarf_units, spot_of}
use Rattle.layout_set.specs.FirstBreach.{Checked, IsFirstBreach}
use Rattle.layout_set.specs.Laws.{sound_laws}
use Rattle.layout_set.specs.declared.breach.CheckErr.{CheckErr}
use Rattle.layout_set.specs.declared.breach.CheckErr.TheVariants as checks
use Rattle.layout_set.specs.declared.breach.Item.{Item}
use Rattle.layout_set.specs.declared.breach.Item.TheVariants.{Def}
use Rattle.layout_set.specs.declared.refusal.ReadErr.{ReadErr}
use Rattle.layout_set.specs.declared.refusal.Refusal.{Refusal}
use Rattle.layout_set.specs.declared.refusal.Section.{Section}
use Rattle.layout_set.specs.declared.set.Set.{Set}
use Rattle.layout_model.proofs.Decided.{checked}
use Rattle.dwarf_info.specs.Reads.{DescribeSet, HaveReading, IsReading, bytes_in}
use Rattle.dwarf_info.proofs.Breaches.{at_type, named_inside}

-- units that end where the section does are all of its bytes
whole : (abbrevs : List ℕ) (s : SoFar) (n : ℕ) (us : List CompileUnit) (t k : List ℕ) → RowSpells (units abbrevs) s n us t → s.left ≡ length (t ++ k) → k ≡ []
whole abbrevs s n [] t [] h l = refl
whole abbrevs s n [] t (b ∷ k) h l = absurd (let over : (s.left == 0) ≡ true = h.0 in grind (arith, nat_tests, over, l, length-append t (b ∷ k)))
whole abbrevs s n (u ∷ us) t k h l =
    let own = h.1 in
    let unit = in_unit abbrevs s n u own.front own.is_front in
    whole abbrevs (after_unit s u) (n + length own.front) us own.back k own.is_back
    (omega (arith, l, unit.size, ap length own.split, length-append own.front own.back, length-append t k, length-append own.back k))

-- a section is split into units, or its first invalid item breaks a rule
abbrev IsSplitOr : List ℕ → List ℕ → Type 0
IsSplitOr abbrevs info = ((us : List DwarfUnit) × (all_units abbrevs (length info)).spells 0 us info) ⊎ ((r : ℕ) × ((m : Spot) × (all_units abbrevs (length info)).faults 0 info r m))

by_read : (abbrevs info : List ℕ) (x : Res UnitSpot (List CompileUnit)) → Right (row (units abbrevs) (at_start (length info))) 0 info x → IsSplitOr abbrevs info
by_read abbrevs info (got us m k) h =
    let none : k ≡ [] = whole abbrevs (at_start (length info)) 0 us h.0 k h.1.0 (ap length h.1.1.0) in
    let same : h.0 ≡ info = sym (append-nil h.0) ∙ ap (λ z. h.0 ++ z) (sym none) ∙ sym h.1.1.0 in
    inl (dwarf_units us, (us, (refl, subst (λ z. RowSpells (units abbrevs) (at_start (length info)) 0 us z) same h.1.0)))
by_read abbrevs info (bad r m) h = inr (r, (spot_of m, (m, (refl, h))))

split : (abbrevs info : List ℕ) → IsSplitOr abbrevs info
split abbrevs info = by_read abbrevs info (read_units abbrevs (at_start (length info)) 0 info) ((units_exact abbrevs (at_start (length info))).right 0 info)

-- where a type's entry begins
offset_at : (l : List Die) (place : ℕ) → place < length l → (o : ℕ) × (slice_get (map (λ (d : Die). d.entry.offset) l) place ≡ Some o)
offset_at [] place h = absurd (omega (arith, h))
offset_at (d ∷ l) zero h = (d.entry.offset, refl)
offset_at (d ∷ l) (suc place) h = offset_at l place (omega (arith, h))

-- the refusal of a rule at a spot
abbrev refusal : ℕ → Spot → Refusal
refusal r m = record { section = m.section; offset = m.offset; rule = r }

unsound_at : (info : Info) (law : ℕ) (at : Item) → IsFirstBreach (set_of info) (sound_laws (set_of info)) law at → (r : ℕ) × ((m : Spot) × IsUnsound (said info) r m)
unsound_at info law at h =
    let t = at_type info law at h in
    let place = min t.place (2 ^ 32 - 1) in
    let breach = subst (IsFirstBreach (set_of info) (sound_laws (set_of info)) law) t.is h in
    let o = offset_at (type_dies info) place (named_inside info law place breach) in
    (first_law + law, (record { section = Section.Info; offset = o.0 }, record { law = law; place = place; offset = o.0; breach = breach; entry = o.1; rule_is = refl; spot_is = refl }))

-- an answer that isn't out of memory
abbrev IsKnown : Result Set ReadErr → Type 0
IsKnown (Ok set) = Unit {0}
IsKnown (Err (ReadErr.Refused r)) = Unit {0}
IsKnown (Err ReadErr.Memory) = ⊥

-- the section is split into these units
abbrev AreUnitsOf : DwarfSections → List DwarfUnit → Type 0
AreUnitsOf s us = (all_units s.abbrev (length s.info)).spells 0 us s.info

pub some_reading : HaveReading
some_reading s deny = by_split (split s.abbrev s.info)
  where
    refused : (r : Refusal) → IsReading s (Err (ReadErr.Refused r)) → ⊥
    refused r h = deny (Err (ReadErr.Refused r)) (λ e. subst IsKnown e tt) h

    by_check : (us : List DwarfUnit) → AreUnitsOf s us → first_fault (items (info_of (bytes_in s) us)) ≡ None → (c : Result (Unit {0}) CheckErr)
        → Checked (set_of (info_of (bytes_in s) us)) (sound_laws (set_of (info_of (bytes_in s) us))) c → (c ≡ Err checks.Memory → ⊥) → ⊥
    by_check us is none (Ok t) h known =
        let info = info_of (bytes_in s) us in
        deny (Ok (set_of info)) (λ e. subst IsKnown e tt) (record { said = said info; says = (us, (is, (none, refl))); sound = h; is = refl })
    by_check us is none (Err (checks.Breach law at)) h known =
        let info = info_of (bytes_in s) us in
        let u = unsound_at info law at h in
        refused (refusal u.0 u.1.0) (inr (said info, ((us, (is, (none, refl))), u.1.1)))
    by_check us is none (Err checks.Memory) h known = known refl

    by_fault : (us : List DwarfUnit) → AreUnitsOf s us → (f : Option (ℕ × Spot)) → first_fault (items (info_of (bytes_in s) us)) ≡ f → ⊥
    by_fault us is None e =
        let set = set_of (info_of (bytes_in s) us) in
        checked set (sound_laws set) (λ c. by_check us is e c.0 c.1 c.2)
    by_fault us is (Some f) e = refused (refusal f.0 f.1) (inl (inr (us, (is, e))))

    by_split : IsSplitOr s.abbrev s.info → ⊥
    by_split (inl x) = by_fault x.0 x.1 (first_fault (items (info_of (bytes_in s) x.0))) refl
    by_split (inr x) = refused (refusal x.0 x.1.0) (inl (inl x.1.1))
